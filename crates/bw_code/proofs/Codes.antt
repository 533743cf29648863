-- What a code tells of its value.
use Rattle.std.proofs.Common.{◌≡◌, ℕ, sym, ℤ, pos, ◌^◌, ◌-◌, ◌<◌, ◌+ℤ◌, ◌<ℤ◌, ◌≤ℤ◌, Bool, true, false, cond, ◌&&◌, int_le, length, refl, subst, ◌∙◌, arith, Option, Some, None, ◌↔◌}
use Rattle.std.specs.List.{Contains}
use Rattle.std.specs.Option.{IsSome, IfSome}
use Rattle.std.proofs.lemmas.Int.{ints, by_lt_z}
use Rattle.std.proofs.lemmas.Nat.{pow_pos}
use Rattle.std.proofs.lemmas.List.{get_or_default}
use Rattle.std.proofs.lemmas.List.Elements.{Contains-get_or}
use Rattle.bw_code.specs.Encodings.{HasCode, IsEncoding, code_of, distance, entry_code, offset_code, top, value_of, width}
use Rattle.bw_code.specs.declared.offset.Offset.{Offset}
use Rattle.bw_code.specs.declared.encoding.Encoding.{Encoding}
use Rattle.bw_code.specs.declared.encoding.Encoding.TheVariants as by
use Rattle.bw_code.proofs.Entries.{upto-le-below, entry_at, entry_is}
use Rattle.bw_code.proofs.Widths.{bits_of_is}

when_some : (b : Bool) (v code : ℕ) → cond b (Some v) None ≡ Some code → (b ≡ true) × (v ≡ code)
when_some true v code e = (refl, cc)
when_some false v code e = absurd cc

and_both : (a b : Bool) → (a && b) ≡ true → (a ≡ true) × (b ≡ true)
and_both true true e = (refl, refl)
and_both true false e = absurd cc
and_both false b e = absurd cc

pub record IsOffsetCode (o : Offset) (x : ℤ) (code : ℕ) : Type 0 where
  pub above : o.base ≤ℤ x
  pub within : x ≤ℤ top o
  pub is : code ≡ distance x o.base
  pub low : code < 2 ^ o.width
  pub back : o.base +ℤ pos code ≡ x

pub offset_code_is : (o : Offset) (x : ℤ) (code : ℕ) → offset_code o x ≡ Some code → IsOffsetCode o x code
offset_code_is o x code e =
    let s = when_some (int_le o.base x && int_le x (top o)) (distance x o.base) code e in
    let b = and_both (int_le o.base x) (int_le x (top o)) s.0 in
    let above : o.base ≤ℤ x = grind (arith, ints, b.0) in
    let within : x ≤ℤ top o = grind (arith, ints, b.1) in
    let is : code ≡ distance x o.base = sym s.1 in
    record { above = above; within = within; is = is; low = omega (arith, ints, pow_pos o.width); back = omega (arith, ints) }

pub offset_coded : (o : Offset) (x : ℤ) → o.base ≤ℤ x → x ≤ℤ top o → offset_code o x ≡ Some (distance x o.base)
offset_coded o x above within =
    let s : int_le o.base x ≡ true = grind (arith, ints) in
    let t : int_le x (top o) ≡ true = grind (arith, ints) in
    rw (s, t) refl

-- a code is below 2^width
pub code_low : (e : Encoding) → IsEncoding e → (x : ℤ) (code : ℕ) → code_of e x ≡ Some code → code < 2 ^ width e
code_low (by.Offset o) ok x code h = (offset_code_is o x code h).low
code_low (by.Dictionary entries) ok x code h =
    let f = entry_is entries x code ok.ascending h in
    let w = bits_of_is (length entries - 1) (omega (arith, ok.few)) in
    omega (arith, f.within, w.holds)

-- a code stands for its value
pub code_back : (e : Encoding) → IsEncoding e → (x : ℤ) (code : ℕ) → code_of e x ≡ Some code → value_of e code ≡ x
code_back (by.Offset o) ok x code h = (offset_code_is o x code h).back
code_back (by.Dictionary entries) ok x code h = (entry_is entries x code ok.ascending h).here

some_is : (r : Option ℕ) (code : ℕ) → r ≡ Some code → IsSome r
some_is r code e = rw e refl

some_of : (r : Option ℕ) → IsSome r → (code : ℕ) × (r ≡ Some code)
some_of (Some code) h = (code, refl)
some_of None h = absurd cc

if_some : (r : Option ℕ) (P : ℕ → Type 0) → ((code : ℕ) → r ≡ Some code → P code) → IfSome r P
if_some (Some code) P f = f code refl
if_some None P f = tt

-- a value has a code exactly where it is between the ends, or an entry
pub coded : (e : Encoding) → IsEncoding e → (x : ℤ) → (IsSome (code_of e x) ↔ HasCode e x)
coded (by.Offset o) ok x = (
  λ h. let s = some_of (offset_code o x) h in let f = offset_code_is o x s.0 s.1 in (f.above, f.within),
  λ h. some_is (offset_code o x) (distance x o.base) (offset_coded o x h.0 h.1),
)
coded (by.Dictionary entries) ok x = (
  λ h. let s = some_of (entry_code entries x) h in let f = entry_is entries x s.0 ok.ascending s.1 in subst (λ (y : ℤ). Contains entries y) f.here (Contains-get_or entries s.0 (pos 0) f.within),
  λ h. some_is (entry_code entries x) h.0 (entry_at entries x h.0 ok.ascending h.1 (get_or_default entries h.0 (pos 0) x h.1 ∙ h.2)),
)

-- what is answered where a code is asked for
pub record IsAnswer (e : Encoding) (x : ℤ) (r : Option ℕ) : Type 0 where
  pub is : r ≡ code_of e x
  pub coded : IsSome r ↔ HasCode e x
  pub low : IfSome r (λ code. code < 2 ^ width e)
  pub back : IfSome r (λ code. value_of e code ≡ x)

pub answer : (e : Encoding) → IsEncoding e → (x : ℤ) (r : Option ℕ) → r ≡ code_of e x → IsAnswer e x r
answer e ok x r is = record {
  is = is;
  coded = rw is (coded e ok x);
  low = if_some r (λ code. code < 2 ^ width e) (λ code h. code_low e ok x code (sym is ∙ h));
  back = if_some r (λ code. value_of e code ≡ x) (λ code h. code_back e ok x code (sym is ∙ h));
}

-- of two values, the lesser has the lesser code
pub code_less : (e : Encoding) → IsEncoding e → (x y : ℤ) (i j : ℕ) → code_of e x ≡ Some i → code_of e y ≡ Some j → x <ℤ y → i < j
code_less (by.Offset o) ok x y i j a b l =
    let f = offset_code_is o x i a in
    let g = offset_code_is o y j b in
    omega (arith, ints, f.back, g.back)
code_less (by.Dictionary entries) ok x y i j a b l =
    let f = entry_is entries x i ok.ascending a in
    let g = entry_is entries y j ok.ascending b in
    omega (arith, f.is, f.counts, g.is, upto-le-below entries x y l)

one_code : (e : Encoding) (x y : ℤ) (i j : ℕ) → x ≡ y → code_of e x ≡ Some i → code_of e y ≡ Some j → i ≡ j
one_code e x y i j same a b =
    let c : code_of e y ≡ Some i = subst (λ (z : ℤ). code_of e z ≡ Some i) same a in
    cc

-- a code stands for one value
pub one_value : (e : Encoding) → IsEncoding e → (x y : ℤ) (code : ℕ) → code_of e x ≡ Some code → code_of e y ≡ Some code → x ≡ y
one_value e ok x y code a b = sym (code_back e ok x code a) ∙ code_back e ok y code b

pub value_less : (e : Encoding) → IsEncoding e → (x y : ℤ) (i j : ℕ) → code_of e x ≡ Some i → code_of e y ≡ Some j → i < j → x <ℤ y
value_less e ok x y i j a b l =
    by_lt_z x y (λ h. h) (λ h.
    by_lt_z y x
    (λ m. absurd (omega (arith, code_less e ok y x j i b a m)))
    (λ m. let same : x ≡ y = omega (arith, ints) in absurd (omega (arith, one_code e x y i j same a b))))
