-- Which codes meet a test.
use Rattle.std.proofs.Common.{◌≡◌, ℕ, sym, ℤ, ◌<◌, ◌≤◌, ◌<ℤ◌, ◌≤ℤ◌, Bool, true, false, cond, ◌&&◌, int_lt, int_le, ltb, leb, List, length, refl, subst, ◌∙◌, arith, inl, inr, Some, ◌⊎◌}
use Rattle.std.specs.Int.{int_max, int_min}
use Rattle.std.specs.Ordering.{int_eq}
use Rattle.std.proofs.lemmas.Int.{ints, clamps, by_lt_z}
use Rattle.std.proofs.lemmas.Bool.Decides.{nat_tests, Decides-int_eq}
use Rattle.bw_code.specs.Encodings.{IsEncoding, below, clipped_range, code_of, distance, offset_test, rank_range, rank_test, range_of, test_above, test_below, test_of, top, upto}
use Rattle.bw_code.specs.Tests.{code_compares, int_compares, meets}
use Rattle.bw_code.specs.declared.offset.Offset.{Offset}
use Rattle.bw_code.specs.declared.encoding.Encoding.{Encoding}
use Rattle.bw_code.specs.declared.encoding.Encoding.TheVariants as by
use Rattle.bw_code.specs.declared.compare.CodeTest.{CodeTest}
use Rattle.bw_code.specs.declared.compare.CodeTest.TheVariants.{None, All, Range}
use Rattle.bw_code.specs.declared.compare.CmpOp.{CmpOp}
use Rattle.bw_code.specs.declared.compare.CmpOp.TheVariants.{Eq, Ne, Lt, Le, Gt, Ge}
use Rattle.bw_code.proofs.Codes.{IsOffsetCode, offset_code_is}
use Rattle.bw_code.proofs.Entries.{below-le-upto, upto-le-below, upto-le-length, entry_is, fewer}
use Rattle.bw_code.proofs.Offsets.{same_bool}

-- two pairs in one order compare alike
pub same_order : (op : CmpOp) (x y : ℤ) (i j : ℕ) → (x <ℤ y → i < j) → (x ≡ y → i ≡ j) → (y <ℤ x → j < i) → int_compares op x y ≡ code_compares op i j
same_order Eq x y i j lt eq gt = grind (arith, ints, nat_tests, Decides-int_eq)
same_order Ne x y i j lt eq gt = grind (arith, ints, nat_tests, Decides-int_eq)
same_order Lt x y i j lt eq gt = grind (arith, ints, nat_tests)
same_order Le x y i j lt eq gt = grind (arith, ints, nat_tests)
same_order Gt x y i j lt eq gt = grind (arith, ints, nat_tests)
same_order Ge x y i j lt eq gt = grind (arith, ints, nat_tests)

-- all values are above the constant, as 1 is above 0
beyond : (op : CmpOp) (code : ℕ) → meets (test_above op) code ≡ code_compares op 1 0
beyond Eq code = refl
beyond Ne code = refl
beyond Lt code = refl
beyond Le code = refl
beyond Gt code = refl
beyond Ge code = refl

-- all values are below the constant, as 0 is below 1
short : (op : CmpOp) (code : ℕ) → meets (test_below op) code ≡ code_compares op 0 1
short Eq code = refl
short Ne code = refl
short Lt code = refl
short Le code = refl
short Gt code = refl
short Ge code = refl

offset_meets : (o : Offset) (op : CmpOp) (x y : ℤ) (code : ℕ) → IsOffsetCode o x code → meets (offset_test o op y) code ≡ int_compares op x y
offset_meets o op x y code f =
    by_lt_z y o.base
    (λ l.
    let t : int_lt y o.base ≡ true = grind (arith, ints) in
    rw t (beyond op code ∙ sym (same_order op x y 1 0 (λ h. absurd (omega (arith, ints, f.above))) (λ h. absurd (omega (arith, ints, f.above))) (λ _. omega arith))))
    (λ l.
    let t : int_lt y o.base ≡ false = grind (arith, ints) in
    by_lt_z (top o) y
    (λ h.
    let s : int_lt (top o) y ≡ true = grind (arith, ints) in
    rw (t, s) (short op code ∙ sym (same_order op x y 0 1 (λ _. omega arith) (λ m. absurd (omega (arith, ints, f.within))) (λ m. absurd (omega (arith, ints, f.within))))))
    (λ h.
    let s : int_lt (top o) y ≡ false = grind (arith, ints) in
    rw (t, s) (sym (same_order op x y code (distance y o.base) (λ m. omega (arith, ints, f.is, f.above)) (λ m. omega (arith, ints, f.is, f.above)) (λ m. omega (arith, ints, f.is, f.above))))))

-- r of n entries are below the constant and q not above it; i are below a value that is an entry
ranked : (op : CmpOp) (i r q n : ℕ) → i < n → r ≤ q → q ≤ n → (k : ℕ) → ((i < r) × (k ≡ 0)) ⊎ ((i ≡ r) × (r < q) × (k ≡ 1)) ⊎ ((q ≤ i) × (k ≡ 2)) → meets (rank_test op r q n) i ≡ code_compares op k 1
ranked Eq i r q n a b d k h = grind (arith, nat_tests)
ranked Ne i r q n a b d k h = grind (arith, nat_tests)
ranked Lt i r q n a b d k h = grind (arith, nat_tests)
ranked Le i r q n a b d k h = grind (arith, nat_tests)
ranked Gt i r q n a b d k h = grind (arith, nat_tests)
ranked Ge i r q n a b d k h = grind (arith, nat_tests)

meets_itself : (op : CmpOp) (xs : List ℤ) (x : ℤ) → below xs x < upto xs x → meets (rank_test op (below xs x) (upto xs x) (length xs)) (below xs x) ≡ int_compares op x x
meets_itself op xs x entry =
    let n = upto-le-length xs x in
    ranked op (below xs x) (below xs x) (upto xs x) (length xs) (omega arith) (omega arith) n 1 (inr (inl (refl, entry, refl)))
    ∙ sym (same_order op x x 1 1 (λ l. absurd (omega (arith, ints))) (λ _. refl) (λ l. absurd (omega (arith, ints))))

entry_meets : (op : CmpOp) (xs : List ℤ) (x y : ℤ) → below xs x < upto xs x → meets (rank_test op (below xs y) (upto xs y) (length xs)) (below xs x) ≡ int_compares op x y
entry_meets op xs x y entry =
    let r = below-le-upto xs y in
    let m : below xs x < length xs = omega (arith, upto-le-length xs x) in
    let n : upto xs y ≤ length xs = upto-le-length xs y in
    let by_rank = ranked op (below xs x) (below xs y) (upto xs y) (length xs) m r n in
    by_lt_z x y
    (λ l. let f = upto-le-below xs x y l in by_rank 0 (inl (omega arith, refl)) ∙ sym (same_order op x y 0 1 (λ _. omega arith) (λ e. absurd (omega (arith, ints))) (λ g. absurd (omega (arith, ints)))))
    (λ g. by_lt_z y x
    (λ l. let f = upto-le-below xs y x l in by_rank 2 (inr (inr (f, refl))) ∙ sym (same_order op x y 2 1 (λ h. absurd (omega (arith, ints))) (λ e. absurd (omega (arith, ints))) (λ _. omega arith)))
    (λ h. let e : x ≡ y = omega (arith, ints) in subst (λ (z : ℤ). meets (rank_test op (below xs z) (upto xs z) (length xs)) (below xs x) ≡ int_compares op x z) e (meets_itself op xs x entry)))

-- a code meets the test exactly where its value satisfies the comparison
pub meets_test : (e : Encoding) → IsEncoding e → (op : CmpOp) (y x : ℤ) (code : ℕ) → code_of e x ≡ Some code → meets (test_of e op y) code ≡ int_compares op x y
meets_test (by.Offset o) ok op y x code h = offset_meets o op x y code (offset_code_is o x code h)
meets_test (by.Dictionary entries) ok op y x code h =
    let f = entry_is entries x code ok.ascending h in
    rw f.is (entry_meets op entries x y f.counts)

-- a value is not below the low end where no fewer entries are below it
low_side : (xs : List ℤ) (x low : ℤ) → below xs x < upto xs x → leb (below xs low) (below xs x) ≡ int_le low x
low_side xs x low entry =
    by_lt_z x low
    (λ l. let h : int_le low x ≡ false = grind (arith, ints) in let f = upto-le-below xs x low l in rw h (grind (arith, nat_tests)))
    (λ l. let h : int_le low x ≡ true = grind (arith, ints) in let f : below xs low ≤ below xs x = fewer (λ z. int_lt z low) (λ z. int_lt z x) (λ z m. grind (arith, ints)) xs in rw h (grind (arith, nat_tests)))

high_side : (xs : List ℤ) (x high : ℤ) → below xs x < upto xs x → ltb (below xs x) (upto xs high) ≡ int_le x high
high_side xs x high entry =
    by_lt_z high x
    (λ l. let h : int_le x high ≡ false = grind (arith, ints) in let f = upto-le-below xs high x l in rw h (grind (arith, nat_tests)))
    (λ l. let h : int_le x high ≡ true = grind (arith, ints) in let f : upto xs x ≤ upto xs high = fewer (λ z. int_le z x) (λ z. int_le z high) (λ z m. grind (arith, ints)) xs in rw h (grind (arith, nat_tests)))

-- i of n entries are below a value that is an entry
rank_meets : (i r q n : ℕ) → i < n → q ≤ n → meets (rank_range r q n) i ≡ (leb r i && ltb i q)
rank_meets i r q n a b = grind (arith, nat_tests)

pub either : (P : CodeTest → Type 0) (b : Bool) (s t : CodeTest) → (b ≡ true → P s) → (b ≡ false → P t) → P (cond b s t)
either P true s t y n = y refl
either P false s t y n = n refl

pub and_both : (a b : Bool) → (a && b) ≡ true → (a ≡ true) × (b ≡ true)
and_both true true e = (refl, refl)
and_both true false e = absurd cc
and_both false b e = absurd cc

-- between the base and the top
clipped_meets : (o : Offset) (first last x : ℤ) (code : ℕ) → IsOffsetCode o x code → o.base ≤ℤ first → last ≤ℤ top o → meets (clipped_range o first last) code ≡ (int_le first x && int_le x last)
clipped_meets o first last x code f a b =
    let P : CodeTest → Type 0 = λ t. meets t code ≡ (int_le first x && int_le x last) in
    let above = f.above in
    let is = f.is in
    either P (int_lt last first) None (cond (int_eq first o.base && int_eq last (top o)) All (Range (distance first o.base) (distance last o.base)))
    (λ t. same_bool _ _ (λ h. absurd cc) (λ h. let s = and_both (int_le first x) (int_le x last) h in grind (arith, ints, t, s)))
    (λ t.
    let ordered : first ≤ℤ last = grind (arith, ints, t) in
    either P (int_eq first o.base && int_eq last (top o)) All (Range (distance first o.base) (distance last o.base))
    (λ s.
    let w = and_both (int_eq first o.base) (int_eq last (top o)) s in
    let p : first ≡ o.base = (Decides-int_eq first o.base).0 w.0 in
    let q : last ≡ top o = (Decides-int_eq last (top o)).0 w.1 in
    let u : int_le first x ≡ true = grind (arith, ints) in
    let v : int_le x last ≡ true = grind (arith, ints, f.within) in
    rw (u, v) refl)
    (λ s.
    let u : leb (distance first o.base) code ≡ int_le first x = same_bool _ _ (λ h. grind (arith, ints, nat_tests)) (λ h. grind (arith, ints, nat_tests)) in
    let v : leb code (distance last o.base) ≡ int_le x last = same_bool _ _ (λ h. grind (arith, ints, nat_tests)) (λ h. grind (arith, ints, nat_tests)) in
    rw (u, v) refl))

offset_ends : (o : Offset) (low high x : ℤ) → o.base ≤ℤ x → x ≤ℤ top o → (int_le (int_max low o.base) x && int_le x (int_min high (top o))) ≡ (int_le low x && int_le x high)
offset_ends o low high x a b =
    let s : int_le (int_max low o.base) x ≡ int_le low x = same_bool _ _ (λ h. grind (arith, ints, clamps)) (λ h. grind (arith, ints, clamps)) in
    let t : int_le x (int_min high (top o)) ≡ int_le x high = same_bool _ _ (λ h. grind (arith, ints, clamps)) (λ h. grind (arith, ints, clamps)) in
    rw (s, t) refl

-- a code meets the range exactly where its value is neither below the low end nor above the high end
pub meets_range : (e : Encoding) → IsEncoding e → (low high x : ℤ) (code : ℕ) → code_of e x ≡ Some code → meets (range_of e low high) code ≡ (int_le low x && int_le x high)
meets_range (by.Offset o) ok low high x code h =
    let f = offset_code_is o x code h in
    clipped_meets o (int_max low o.base) (int_min high (top o)) x code f (omega (arith, ints, clamps)) (omega (arith, ints, clamps)) ∙ offset_ends o low high x f.above f.within
meets_range (by.Dictionary entries) ok low high x code h =
    let f = entry_is entries x code ok.ascending h in
    rw f.is (rank_meets (below entries x) (below entries low) (upto entries high) (length entries) (omega (arith, f.within, f.is)) (upto-le-length entries high) ∙ rw (low_side entries x low f.counts, high_side entries x high f.counts) refl)
