-- A heading is told by its text, but that two headings of a list of tables read like columns.
use Rattle.std.proofs.Common.{◌≡◌, ◌≢◌, inl, inr, ◌⊎◌, ℕ, Bool, true, false, if◌then◌else◌, List, [], ◌∷◌, ◌++◌, codes, refl, ap, subst, sym, ◌∙◌, arith}
use Rattle.std.specs.Str.{bytes_eq}
use Rattle.std.proofs.lemmas.Slice.Eq.{bytes_eq-Decides}
use Rattle.bw_sql.specs.Names.{IsName}
use Rattle.bw_model.specs.ReplyText.{heading_text}
use Rattle.bw_model.specs.Told.{IsHeading, heading_as_read}
use Rattle.bw_model.specs.declared.answer.Heading.{Heading}
use Rattle.bw_model.specs.declared.answer.Heading.TheVariants as heading
use Rattle.bw_model.proofs.Cuts.{Between, Each, cut, each-append, each_between, each_weaker, not_cut}
use Rattle.bw_model.proofs.NameTexts.{name_text}

by_no : (b : Bool) → (b ≡ true → ⊥) → b ≡ false
by_no true no_way = absurd (no_way refl)
by_no false no_way = refl

isnt : (x y : List ℕ) → x ≢ y → bytes_eq x y ≡ false
isnt x y other = by_no (bytes_eq x y) (λ e. other ((bytes_eq-Decides x y).0 e))

-- a word as it is read
abbrev word_heading : List ℕ → Heading
word_heading word = if bytes_eq word (codes "TABLE") then heading.Table else heading.Column word

-- and a set function over a column or *
abbrev call_heading : List ℕ → List ℕ → Heading
call_heading function of =
    if bytes_eq function (codes "COUNT") then (if bytes_eq of (codes "*") then heading.CountRows else heading.Count of)
    else if bytes_eq function (codes "SUM") then heading.Sum of
    else if bytes_eq function (codes "MIN") then heading.Min of
    else if bytes_eq function (codes "MAX") then heading.Max of
    else heading.Median of

-- what stands in a heading, and between its parentheses: no comma, and no line feed
abbrev pub InHeading : ℕ → Type 0
InHeading b = Between 40 95 b × (b ≢ 44)

abbrev InOf : ℕ → Type 0
InOf b = Between 42 95 b × (b ≢ 44)

record Word (h : Heading) : Type 0 where
  pub word : List ℕ
  pub some : word ≢ []
  pub bytes : Each (Between 48 95) word
  pub text : heading_text h ≡ word
  pub read : heading_as_read h ≡ word_heading word

record Call (h : Heading) : Type 0 where
  pub function : List ℕ
  pub of : List ℕ
  pub bytes : Each (Between 48 95) function
  pub of_bytes : Each InOf of
  pub text : heading_text h ≡ function ++ 40 ∷ (of ++ 41 ∷ [])
  pub read : heading_as_read h ≡ call_heading function of

of_name : (name : List ℕ) → IsName name → Each InOf name
of_name name is = each_weaker (Between 48 95) InOf (λ b p. ((omega arith, p.1), λ e. omega (arith, p.0))) name (name_text name is).bytes

not_star : (name : List ℕ) → IsName name → name ≢ codes "*"
not_star name is e = let p = (name_text name is).first 42 [] e in omega (arith, p.0)

shape : (h : Heading) → IsHeading h → Word h ⊎ Call h
shape (heading.Column name) is =
    let t = name_text name is in
    inl (record { word = name; some = t.some; bytes = t.bytes; text = refl; read = ap (λ b. if b then heading.Table else heading.Column name) (sym (isnt name (codes "TABLE") t.not_table)) })
shape heading.CountRows is = inr (record { function = codes "COUNT"; of = codes "*"; bytes = each_between 48 95 (codes "COUNT") refl; of_bytes = (((omega arith, omega arith), λ e. omega arith), tt); text = refl; read = refl })
shape (heading.Count name) is = inr (record {
  function = codes "COUNT";
  of = name;
  bytes = each_between 48 95 (codes "COUNT") refl;
  of_bytes = of_name name is;
  text = refl;
  read = ap (λ b. if b then heading.CountRows else heading.Count name) (sym (isnt name (codes "*") (not_star name is)));
})
shape (heading.Sum name) is = inr (record { function = codes "SUM"; of = name; bytes = each_between 48 95 (codes "SUM") refl; of_bytes = of_name name is; text = refl; read = refl })
shape (heading.Min name) is = inr (record { function = codes "MIN"; of = name; bytes = each_between 48 95 (codes "MIN") refl; of_bytes = of_name name is; text = refl; read = refl })
shape (heading.Max name) is = inr (record { function = codes "MAX"; of = name; bytes = each_between 48 95 (codes "MAX") refl; of_bytes = of_name name is; text = refl; read = refl })
shape (heading.Median name) is = inr (record { function = codes "MEDIAN"; of = name; bytes = each_between 48 95 (codes "MEDIAN") refl; of_bytes = of_name name is; text = refl; read = refl })
shape heading.Table is = inl (record { word = codes "TABLE"; some = λ e. cc; bytes = each_between 48 95 (codes "TABLE") refl; text = refl; read = refl })
shape heading.Columns is = inl (record { word = codes "COLUMNS"; some = λ e. cc; bytes = each_between 48 95 (codes "COLUMNS") refl; text = refl; read = refl })
shape heading.Rows is = inl (record { word = codes "ROWS"; some = λ e. cc; bytes = each_between 48 95 (codes "ROWS") refl; text = refl; read = refl })

-- as its text says

below_word : Between 48 95 40 → ⊥
below_word p = omega (arith, p.0)

below_of : InOf 41 → ⊥
below_of p = omega (arith, p.0.0)

two_words : (x y : Heading) → Word x → Word y → heading_text x ≡ heading_text y → heading_as_read x ≡ heading_as_read y
two_words x y a b e = a.read ∙ ap word_heading (sym a.text ∙ e ∙ b.text) ∙ sym b.read

word_and_call : (x y : Heading) → Word x → Call y → heading_text x ≡ heading_text y → ⊥
word_and_call x y a b e = not_cut (Between 48 95) 40 below_word b.function a.word (b.of ++ 41 ∷ []) a.bytes (sym b.text ∙ sym e ∙ a.text)

two_calls : (x y : Heading) → Call x → Call y → heading_text x ≡ heading_text y → heading_as_read x ≡ heading_as_read y
two_calls x y a b e =
    let p = cut (Between 48 95) 40 below_word a.function b.function (a.of ++ 41 ∷ []) (b.of ++ 41 ∷ []) a.bytes b.bytes (sym a.text ∙ e ∙ b.text) in
    let q = cut InOf 41 below_of a.of b.of [] [] a.of_bytes b.of_bytes p.1 in
    a.read ∙ (λ j. call_heading (p.0 j) (q.0 j)) ∙ sym b.read

pub heading_told : (x y : Heading) → IsHeading x → IsHeading y → heading_text x ≡ heading_text y → heading_as_read x ≡ heading_as_read y
heading_told x y p q e =
    elim (shape x p) [
      | inl a ↦ elim (shape y q) [ inl b ↦ two_words x y a b e | inr b ↦ absurd (word_and_call x y a b e) ]
      | inr a ↦ elim (shape y q) [ inl b ↦ absurd (word_and_call y x b a (sym e)) | inr b ↦ two_calls x y a b e ]
    ]

-- its bytes

in_word : (b : ℕ) → Between 48 95 b → InHeading b
in_word b p = ((omega arith, p.1), λ e. omega (arith, p.0))

in_of : (b : ℕ) → InOf b → InHeading b
in_of b p = ((omega (arith, p.0.0), p.0.1), p.1)

call_clean : (h : Heading) → Call h → Each InHeading (heading_text h)
call_clean h a =
    let closed = each-append InHeading a.of (41 ∷ []) (each_weaker InOf InHeading in_of a.of a.of_bytes) (((omega arith, omega arith), λ e. omega arith), tt) in
    subst (Each InHeading) (sym a.text)
    (each-append InHeading a.function (40 ∷ (a.of ++ 41 ∷ [])) (each_weaker (Between 48 95) InHeading in_word a.function a.bytes) (((omega arith, omega arith), λ e. omega arith), closed))

pub heading_clean : (h : Heading) → IsHeading h → Each InHeading (heading_text h)
heading_clean h is =
    elim (shape h is) [
      | inl a ↦ subst (Each InHeading) (sym a.text) (each_weaker (Between 48 95) InHeading in_word a.word a.bytes)
      | inr a ↦ call_clean h a
    ]

behind : (x : List ℕ) (b : ℕ) (rest : List ℕ) → x ++ b ∷ rest ≢ []
behind [] b rest e = cc
behind (c ∷ x) b rest e = cc

pub heading_some : (h : Heading) → IsHeading h → heading_text h ≢ []
heading_some h is =
    elim (shape h is) [ inl a ↦ λ e. a.some (sym a.text ∙ e) | inr a ↦ λ e. behind a.function 40 (a.of ++ 41 ∷ []) (sym a.text ∙ e) ]
