-- A refusal is told by its text.
use Rattle.std.proofs.Common.{◌≡◌, ℕ, ◌+◌, ◌-◌, ◌*◌, ◌<◌, ◌^◌, ◌==◌, if◌then◌else◌, List, ◌∷◌, ◌++◌, codes, decimal, drop, get_or, refl, ap, sym, subst, ◌∙◌, append_assoc, arith}
use Rattle.bw_model.specs.ReplyText.{refusal_text}
use Rattle.bw_model.specs.Told.{IsRefusal}
use Rattle.bw_model.specs.declared.refusal.Refusal.{Refusal}
use Rattle.bw_model.specs.declared.refusal.Refusal.TheVariants as refusal
use Rattle.bw_model.proofs.CellTexts.{decimal_bytes, decimal_told}
use Rattle.bw_model.proofs.Cuts.{Between, Each, cut, each-append, each_between, each_weaker}

-- a refusal without its numbers
abbrev kind : Refusal → Refusal
kind (refusal.WrongNumberOfFields record') = refusal.WrongNumberOfFields 0
kind (refusal.NotInteger record' field) = refusal.NotInteger 0 0
kind other = other

-- the two digits after `error `
abbrev code : List ℕ → ℕ
code text = get_or text 6 0 * 10 + get_or text 7 0 - 528

abbrev by_code : ℕ → Refusal
by_code n =
    if n == 10 then refusal.Syntax
    else if n == 11 then refusal.StatementTooLong
    else if n == 12 then refusal.NestedTooDeeply
    else if n == 13 then refusal.NumberTooLarge
    else if n == 20 then refusal.NoSuchTable
    else if n == 21 then refusal.TableExists
    else if n == 22 then refusal.NoSuchColumn
    else if n == 23 then refusal.ColumnNamedTwice
    else if n == 24 then refusal.OverLimit
    else if n == 25 then refusal.WrongNumberOfValues
    else if n == 26 then refusal.OutOfRange
    else if n == 27 then refusal.MixedItems
    else if n == 28 then refusal.TableFull
    else if n == 40 then refusal.UnreadableFile
    else if n == 41 then refusal.UnwritableFile
    else if n == 42 then refusal.WrongNumberOfFields 0
    else if n == 43 then refusal.NotInteger 0 0
    else if n == 44 then refusal.NotTableFile
    else if n == 46 then refusal.FileTooLarge
    else if n == 60 then refusal.LayoutTooNarrow
    else refusal.OutOfMemory

coded : (r : Refusal) → by_code (code (refusal_text r)) ≡ kind r
coded (refusal.WrongNumberOfFields record') = refl
coded (refusal.NotInteger record' field) = refl
coded _ = refl

same_kind : (x y : Refusal) → refusal_text x ≡ refusal_text y → kind x ≡ kind y
same_kind x y e = sym (coded x) ∙ ap (λ text. by_code (code text)) e ∙ coded y

-- the numbers

no_space : Between 48 57 32 → ⊥
no_space p = omega (arith, p.0)

wide : (n : ℕ) → n < 2 ^ 64 → n < 10 ^ 64
wide n h = omega arith

counted_told : (m n : ℕ) → m < 2 ^ 64 → n < 2 ^ 64 → refusal_text (refusal.WrongNumberOfFields m) ≡ refusal_text (refusal.WrongNumberOfFields n) → m ≡ n
counted_told m n p q e =
    let tail : decimal m ++ codes " has the wrong number of fields" ≡ decimal n ++ codes " has the wrong number of fields" = ap (drop 17) e in
    decimal_told m n (wide m p) (wide n q) (cut (Between 48 57) 32 no_space (decimal m) (decimal n) _ _ (decimal_bytes m (wide m p)) (decimal_bytes n (wide n q)) tail).0

placed_told : (m f n g : ℕ) → m < 2 ^ 64 → f < 2 ^ 64 → n < 2 ^ 64 → g < 2 ^ 64 → refusal_text (refusal.NotInteger m f) ≡ refusal_text (refusal.NotInteger n g) → (m ≡ n) × (f ≡ g)
placed_told m f n g p p2 q q2 e =
    let left = codes " is not an integer" in
    let regrouped : decimal m ++ 32 ∷ (codes "field " ++ (decimal f ++ left)) ≡ decimal n ++ 32 ∷ (codes "field " ++ (decimal g ++ left)) =
    let tail : ((decimal m ++ codes " field ") ++ decimal f) ++ left ≡ ((decimal n ++ codes " field ") ++ decimal g) ++ left = ap (drop 17) e in
    simp append_assoc at tail in
    let first = cut (Between 48 57) 32 no_space (decimal m) (decimal n) _ _ (decimal_bytes m (wide m p)) (decimal_bytes n (wide n q)) regrouped in
    let rest : decimal f ++ left ≡ decimal g ++ left = ap (drop 6) first.1 in
    let second = cut (Between 48 57) 32 no_space (decimal f) (decimal g) _ _ (decimal_bytes f (wide f p2)) (decimal_bytes g (wide g q2)) rest in
    (decimal_told m n (wide m p) (wide n q) first.0, decimal_told f g (wide f p2) (wide g q2) second.0)

-- a refusal has no number, or is one of two

data Form (r : Refusal) : Type 0 where
  plain : kind r ≡ r → Form r
  counted : (record' : ℕ) → r ≡ refusal.WrongNumberOfFields record' → Form r
  placed : (record' field : ℕ) → r ≡ refusal.NotInteger record' field → Form r

form : (r : Refusal) → Form r
form (refusal.WrongNumberOfFields record') = counted record' refl
form (refusal.NotInteger record' field) = placed record' field refl
form _ = plain refl

-- beside a refusal with a number, one without has that number 0
told_by : (x y : Refusal) → Form x → Form y → IsRefusal x → IsRefusal y → refusal_text x ≡ refusal_text y → x ≡ y
told_by x y (plain a) (plain b) p q e = sym a ∙ same_kind x y e ∙ b
told_by x y (plain a) (counted n b) p q e =
    let is : x ≡ refusal.WrongNumberOfFields 0 = sym a ∙ same_kind x y e ∙ ap kind b in
    is ∙ ap refusal.WrongNumberOfFields (counted_told 0 n (omega arith) (subst IsRefusal b q) (ap refusal_text (sym is) ∙ e ∙ ap refusal_text b)) ∙ sym b
told_by x y (counted n a) (plain b) p q e =
    let is : y ≡ refusal.WrongNumberOfFields 0 = sym b ∙ sym (same_kind x y e) ∙ ap kind a in
    a ∙ ap refusal.WrongNumberOfFields (counted_told n 0 (subst IsRefusal a p) (omega arith) (ap refusal_text (sym a) ∙ e ∙ ap refusal_text is)) ∙ sym is
told_by x y (counted m a) (counted n b) p q e =
    a ∙ ap refusal.WrongNumberOfFields (counted_told m n (subst IsRefusal a p) (subst IsRefusal b q) (ap refusal_text (sym a) ∙ e ∙ ap refusal_text b)) ∙ sym b
told_by x y (counted m a) (placed n g b) p q e = let no_way : refusal.WrongNumberOfFields 0 ≡ refusal.NotInteger 0 0 = ap kind (sym a) ∙ same_kind x y e ∙ ap kind b in cc
told_by x y (placed m f a) (counted n b) p q e = let no_way : refusal.NotInteger 0 0 ≡ refusal.WrongNumberOfFields 0 = ap kind (sym a) ∙ same_kind x y e ∙ ap kind b in cc
told_by x y (plain a) (placed n g b) p q e =
    let is : x ≡ refusal.NotInteger 0 0 = sym a ∙ same_kind x y e ∙ ap kind b in
    let fits = subst IsRefusal b q in
    let same = placed_told 0 0 n g (omega arith) (omega arith) fits.0 fits.1 (ap refusal_text (sym is) ∙ e ∙ ap refusal_text b) in
    is ∙ (λ j. refusal.NotInteger (same.0 j) (same.1 j)) ∙ sym b
told_by x y (placed n g a) (plain b) p q e =
    let is : y ≡ refusal.NotInteger 0 0 = sym b ∙ sym (same_kind x y e) ∙ ap kind a in
    let fits = subst IsRefusal a p in
    let same = placed_told n g 0 0 fits.0 fits.1 (omega arith) (omega arith) (ap refusal_text (sym a) ∙ e ∙ ap refusal_text is) in
    a ∙ (λ j. refusal.NotInteger (same.0 j) (same.1 j)) ∙ sym is
told_by x y (placed m f a) (placed n g b) p q e =
    let fits = subst IsRefusal a p in
    let others = subst IsRefusal b q in
    let same = placed_told m f n g fits.0 fits.1 others.0 others.1 (ap refusal_text (sym a) ∙ e ∙ ap refusal_text b) in
    a ∙ (λ j. refusal.NotInteger (same.0 j) (same.1 j)) ∙ sym b

pub refusal_told : (x y : Refusal) → IsRefusal x → IsRefusal y → refusal_text x ≡ refusal_text y → x ≡ y
refusal_told x y p q e = told_by x y (form x) (form y) p q e

-- its bytes

digits_in : (n : ℕ) → n < 2 ^ 64 → Each (Between 32 122) (decimal n)
digits_in n h = each_weaker (Between 48 57) (Between 32 122) (λ b p. (omega (arith, p.0), omega (arith, p.1))) (decimal n) (decimal_bytes n (wide n h))

pub refusal_clean : (r : Refusal) → IsRefusal r → Each (Between 32 122) (refusal_text r)
refusal_clean (refusal.WrongNumberOfFields record') is =
    let C = Between 32 122 in
    each-append C (codes "error 42: record " ++ decimal record') (codes " has the wrong number of fields")
    (each-append C (codes "error 42: record ") (decimal record') (each_between 32 122 (codes "error 42: record ") refl) (digits_in record' is))
    (each_between 32 122 (codes " has the wrong number of fields") refl)
refusal_clean (refusal.NotInteger record' field) is =
    let C = Between 32 122 in
    let front = each-append C (codes "error 43: record ") (decimal record') (each_between 32 122 (codes "error 43: record ") refl) (digits_in record' is.0) in
    let middle = each-append C (codes "error 43: record " ++ decimal record') (codes " field ") front (each_between 32 122 (codes " field ") refl) in
    let numbers = each-append C (codes "error 43: record " ++ decimal record' ++ codes " field ") (decimal field) middle (digits_in field is.1) in
    each-append C (codes "error 43: record " ++ decimal record' ++ codes " field " ++ decimal field) (codes " is not an integer") numbers (each_between 32 122 (codes " is not an integer") refl)
refusal_clean r is = each_between 32 122 (refusal_text r) refl
