-- A cell is told by its text.
use Rattle.std.proofs.Common.{◌≡◌, ◌≢◌, ℕ, ℤ, pos, negsuc, ◌≤◌, ◌<◌, ◌^◌, List, [], ◌∷◌, FitsSigned, codes, decimal, length, suc, refl, ap, sym, subst, ◌∙◌, arith}
use Rattle.std.specs.Fmt.{signed_decimal}
use Rattle.std.specs.Int.{w128}
use Rattle.std.specs.Str.Parse.{AllDigits, digits_value}
use Rattle.std.proofs.lemmas.Fmt.{decimal_is_IsNumeral_wide}
use Rattle.std.proofs.lemmas.Str.Parse.{digit_from_value}
use Rattle.bw_sql.specs.Names.{IsName}
use Rattle.bw_model.specs.ReplyText.{cell_text}
use Rattle.bw_model.specs.Told.{IsCell}
use Rattle.bw_model.specs.declared.answer.Cell.{Cell}
use Rattle.bw_model.specs.declared.answer.Cell.TheVariants.{Null, Number, Name}
use Rattle.bw_model.proofs.Cuts.{Between, Each, each_between, each_weaker}
use Rattle.bw_model.proofs.NameTexts.{name_text}

-- decimals

digits_each : (ds : List ℕ) → AllDigits 10 ds → Each (Between 48 57) ds
digits_each [] all = tt
digits_each (d ∷ ds) all = let r = digit_from_value d all.0 in ((omega (arith, r), omega (arith, r)), digits_each ds all.1)

pub decimal_bytes : (n : ℕ) → n < 10 ^ 64 → Each (Between 48 57) (decimal n)
decimal_bytes n h = digits_each (decimal n) (decimal_is_IsNumeral_wide n h).0.1

pub decimal_some : (n : ℕ) → n < 10 ^ 64 → decimal n ≢ []
decimal_some n h e = let some = (decimal_is_IsNumeral_wide n h).0.0 in omega (arith, ap length e, some)

pub decimal_told : (m n : ℕ) → m < 10 ^ 64 → n < 10 ^ 64 → decimal m ≡ decimal n → m ≡ n
decimal_told m n p q e = sym (decimal_is_IsNumeral_wide m p).1 ∙ ap (digits_value 10) e ∙ (decimal_is_IsNumeral_wide n q).1

-- the first byte of a decimal is a digit
first_of : (P : ℕ → Type 0) (xs : List ℕ) (b : ℕ) (rest : List ℕ) → Each P xs → xs ≡ b ∷ rest → P b
first_of P [] b rest each e = cc
first_of P (x ∷ xs) b rest each e = let same : x ≡ b = cc in subst P same each.0

fits_pos : (n : ℕ) → FitsSigned w128 (pos n) → n < 10 ^ 64
fits_pos n fits = omega (arith, fits)

fits_neg : (n : ℕ) → FitsSigned w128 (negsuc n) → suc n < 10 ^ 64
fits_neg n fits = omega (arith, fits)

-- each cell

abbrev pub InCell : ℕ → Type 0
InCell = Between 45 95

digit_in : (b : ℕ) → Between 48 57 b → InCell b
digit_in b p = (omega arith, omega arith)

pub cell_clean : (c : Cell) → IsCell c → Each InCell (cell_text c)
cell_clean Null is = each_between 45 95 (codes "NULL") refl
cell_clean (Number (pos n)) is = each_weaker (Between 48 57) InCell digit_in (decimal n) (decimal_bytes n (fits_pos n is))
cell_clean (Number (negsuc n)) is = ((omega arith, omega arith), each_weaker (Between 48 57) InCell digit_in (decimal (suc n)) (decimal_bytes (suc n) (fits_neg n is)))
cell_clean (Name name) is = each_weaker (Between 48 95) InCell (λ b p. (omega arith, p.1)) name (name_text name is).bytes

pub cell_some : (c : Cell) → IsCell c → cell_text c ≢ []
cell_some Null is e = cc
cell_some (Number (pos n)) is e = decimal_some n (fits_pos n is) e
cell_some (Number (negsuc n)) is e = cc
cell_some (Name name) is e = (name_text name is).some e

-- the texts of numbers begin with a digit or -, and those of names and NULL with a letter

pub record Starts (text : List ℕ) : Type 0 where
  pub below : (b : ℕ) (rest : List ℕ) → text ≡ b ∷ rest → b ≤ 57

number_starts : (n : ℤ) → FitsSigned w128 n → Starts (signed_decimal n)
number_starts (pos n) fits = record { below = λ b rest e. (first_of (Between 48 57) (decimal n) b rest (decimal_bytes n (fits_pos n fits)) e).1 }
number_starts (negsuc n) fits = record { below = λ b rest e. let same : 45 ≡ b = cc in omega (arith, same) }

split : (xs : List ℕ) → xs ≢ [] → (b : ℕ) × (rest : List ℕ) × (xs ≡ b ∷ rest)
split [] some = absurd (some refl)
split (b ∷ rest) some = (b, rest, refl)

number_isnt_name : (n : ℤ) (name : List ℕ) → FitsSigned w128 n → IsName name → signed_decimal n ≡ name → ⊥
number_isnt_name n name fits is e =
    let t = name_text name is in
    let parts = split name t.some in
    let low = (number_starts n fits).below parts.0 parts.1 (e ∙ parts.2) in
    let high = (t.first parts.0 parts.1 parts.2).0 in
    omega arith

number_isnt_null : (n : ℤ) → FitsSigned w128 n → signed_decimal n ≡ codes "NULL" → ⊥
number_isnt_null n fits e = let low = (number_starts n fits).below 78 (codes "ULL") e in omega arith

number_told : (m n : ℤ) → FitsSigned w128 m → FitsSigned w128 n → signed_decimal m ≡ signed_decimal n → m ≡ n
number_told (pos m) (pos n) p q e = ap pos (decimal_told m n (fits_pos m p) (fits_pos n q) e)
number_told (pos m) (negsuc n) p q e =
    let first = first_of (Between 48 57) (decimal m) 45 (decimal (suc n)) (decimal_bytes m (fits_pos m p)) e in absurd (omega arith)
number_told (negsuc m) (pos n) p q e =
    let first = first_of (Between 48 57) (decimal n) 45 (decimal (suc m)) (decimal_bytes n (fits_pos n q)) (sym e) in absurd (omega arith)
number_told (negsuc m) (negsuc n) p q e =
    let tail : decimal (suc m) ≡ decimal (suc n) = cc in
    let same = decimal_told (suc m) (suc n) (fits_neg m p) (fits_neg n q) tail in ap negsuc (omega arith)

pub cell_told : (x y : Cell) → IsCell x → IsCell y → cell_text x ≡ cell_text y → x ≡ y
cell_told Null Null p q e = refl
cell_told Null (Number n) p q e = absurd (number_isnt_null n q (sym e))
cell_told Null (Name name) p q e = absurd ((name_text name q).not_null (sym e))
cell_told (Number n) Null p q e = absurd (number_isnt_null n p e)
cell_told (Number m) (Number n) p q e = ap Number (number_told m n p q e)
cell_told (Number n) (Name name) p q e = absurd (number_isnt_name n name p q e)
cell_told (Name name) Null p q e = absurd ((name_text name p).not_null e)
cell_told (Name name) (Number n) p q e = absurd (number_isnt_name n name q p (sym e))
cell_told (Name a) (Name b) p q e = ap Name e
