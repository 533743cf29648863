-- The words that the command meets: `--`, `--stop`, words that it refuses, and names.
use Rattle.std.proofs.Common.{◌≡◌, ◌∙◌, ◌+◌, arith, take, ℕ, suc, Bool, true, false, List, [], ◌∷◌, refl, sym, ap, subst, ◌==◌}
use Rattle.std.specs.Prelude.{Option, Some, None, codes, bytes_eq, if◌then◌else◌}
use Rattle.std.specs.List.{before_first}
use Rattle.std.specs.Option.{option_map_or}
use Rattle.std.specs.Str.{chars}
use Rattle.std.proofs.lemmas.Bool.{eqb-true}
use Rattle.std.proofs.lemmas.Slice.Eq.{bytes_eq-Decides}
use Rattle.clap.specs.Lexer.{has_byte, long_of, name_and_value, short_of}
use Rattle.clap.specs.Walk.{Held, Row, Text, bundle_met, idle, long_or_other, short_or_plain, trailing, value, word_met}
use Rattle.clap.specs.Simple.{Shape, built}
use Rattle.clap.specs.Faults.{bundle_fault, flag_word_fault, flags_fault, word_fault}
use Rattle.clap.specs.declared.error.kind.ErrorKind.TheVariants as kind
use Rattle.bw_program.specs.Command.{command_app}
use Rattle.bw_program.specs.Words.{is_dashed}

abbrev pub shape : Shape
shape = (built command_app).top

abbrev pub resting : List Row → Option (Text × List Text) → Held
resting rows pending = record { rows = rows; pending = pending; skip = 0 }

-- the word names a script
pub record IsName (word : Text) : Type 0 where
  pub dashes : bytes_eq word (codes "--") ≡ false
  pub stop : bytes_eq word (codes "--stop") ≡ false
  pub dashed : is_dashed word ≡ false
  pub met : (position : ℕ) (rows : List Row) (pending : Option (Text × List Text)) → word_met shape.rules [] false idle position word (resting rows pending) ≡ (resting rows pending, value)
  pub fault : (rows : List Row) (pending : Option (Text × List Text)) → word_fault shape [] false idle word (resting rows pending) ≡ []

-- the command refuses the word
pub record IsRefused (word : Text) : Type 0 where
  pub dashes : bytes_eq word (codes "--") ≡ false
  pub stop : bytes_eq word (codes "--stop") ≡ false
  pub dashed : is_dashed word ≡ true
  pub fault : (rows : List Row) (pending : Option (Text × List Text)) → word_fault shape [] false idle word (resting rows pending) ≡ [] → ⊥

pub data Form (word : Text) : Type 0 where
  is_dashes : word ≡ codes "--" → Form word
  is_stop : word ≡ codes "--stop" → Form word
  is_refused : IsRefused word → Form word
  is_name : IsName word → Form word

-- the steps of a word that is not `--`, by what stands after its hyphens
met_by : (word : Text) (position : ℕ) (h : Held) (l : Option (Text × Option Text)) → bytes_eq word (codes "--") ≡ false → long_of word ≡ l
    → word_met shape.rules [] false idle position word h ≡ long_or_other shape.rules idle word l h
met_by word position h l dashes long =
    ap (λ b. if b then (h, trailing position) else long_or_other shape.rules idle word (long_of word) h) dashes
    ∙ ap (λ o. long_or_other shape.rules idle word o h) long

fault_by_long : (word : Text) (h : Held) (l : Option (Text × Option Text)) → bytes_eq word (codes "--") ≡ false → long_of word ≡ l
    → word_fault shape [] false idle word h ≡ flag_word_fault shape.rules false l word h
fault_by_long word h l dashes long =
    ap (λ b. if b then [] else flag_word_fault shape.rules false (long_of word) word h) dashes
    ∙ ap (λ o. flag_word_fault shape.rules false o word h) long

bare_name : (word : Text) → bytes_eq word (codes "--") ≡ false → bytes_eq word (codes "--stop") ≡ false → is_dashed word ≡ false
    → long_of word ≡ None → short_of word ≡ None → IsName word
bare_name word dashes stop dashed long short = record {
  dashes = dashes;
  stop = stop;
  dashed = dashed;
  met = λ position rows pending. met_by word position (resting rows pending) None dashes long
      ∙ ap (λ o. short_or_plain shape.rules idle word o (resting rows pending)) short;
  fault = λ rows pending. fault_by_long word (resting rows pending) None dashes long
      ∙ ap (λ o. option_map_or (λ flags. bundle_fault shape.rules false flags (resting rows pending)) o []) short;
}

hyphen_name : IsName (45 ∷ [])
unfolding chars
hyphen_name = bare_name (45 ∷ []) refl refl refl refl refl

-- a hyphen and bytes that are no character
rest_name : (y : ℕ) (ys : Text) → (y == 45) ≡ false → chars (y ∷ ys) ≡ [] → IsName (45 ∷ y ∷ ys)
unfolding bundle_met flags_fault
rest_name y ys h none = let word = 45 ∷ y ∷ ys in
    let dashes : bytes_eq word (codes "--") ≡ false = rw h refl in
    let long : long_of word ≡ None = rw h refl in
    let short : short_of word ≡ Some (y ∷ ys) = rw h refl in
    record {
      dashes = dashes;
      stop = rw h refl;
      dashed = rw none refl;
      met = λ position rows pending. met_by word position (resting rows pending) None dashes long
          ∙ ap (λ o. short_or_plain shape.rules idle word o (resting rows pending)) short
          ∙ rw none refl;
      fault = λ rows pending. fault_by_long word (resting rows pending) None dashes long
          ∙ ap (λ o. option_map_or (λ flags. bundle_fault shape.rules false flags (resting rows pending)) o []) short
          ∙ rw none refl;
    }

-- a hyphen and a character after it
refused_short : (y : ℕ) (ys : Text) (c : ℕ) (cs : List ℕ) → (y == 45) ≡ false → chars (y ∷ ys) ≡ c ∷ cs → IsRefused (45 ∷ y ∷ ys)
unfolding flags_fault
refused_short y ys c cs h some = let word = 45 ∷ y ∷ ys in
    let dashes : bytes_eq word (codes "--") ≡ false = rw h refl in
    let long : long_of word ≡ None = rw h refl in
    let short : short_of word ≡ Some (y ∷ ys) = rw h refl in
    record {
      dashes = dashes;
      stop = rw h refl;
      dashed = rw some refl;
      fault = λ rows pending e.
          let fault : word_fault shape [] false idle word (resting rows pending) ≡ kind.UnknownArgument ∷ [] =
          fault_by_long word (resting rows pending) None dashes long
          ∙ ap (λ o. option_map_or (λ flags. bundle_fault shape.rules false flags (resting rows pending)) o []) short
          ∙ rw some refl in
          cc;
    }

take_more : (n x : ℕ) (xs : Text) → take (1 + n) (x ∷ xs) ≡ x ∷ take n xs
take_more n x xs =
    let e : 1 + n ≡ suc n = omega arith in
    rw e refl

-- a text without `=` is all name
all_before : (t : Text) → has_byte 61 t ≡ false → before_first (λ x. x == 61) t ≡ t
all_before [] h = refl
all_before (x ∷ xs) h = go (x == 61) refl (all_before xs)
  where
    go : (b : Bool) → (x == 61) ≡ b → (has_byte 61 xs ≡ false → before_first (λ v. v == 61) xs ≡ xs) → before_first (λ v. v == 61) (x ∷ xs) ≡ x ∷ xs
    go true e rest =
        let bad : true ≡ false = rw e at h in
        cc
    go false e rest =
        let same : before_first (λ v. v == 61) xs ≡ xs = rest (rw e at h) in
        rw e (take_more _ x xs ∙ ap (λ t. x ∷ t) same)

-- `--` and a name that isn't `stop`, or a name with a value
long_fault_of : (word : Text) (z : ℕ) (zs : Text) → bytes_eq (z ∷ zs) (codes "stop") ≡ false → (rows : List Row) (pending : Option (Text × List Text))
    → flag_word_fault shape.rules false (Some (name_and_value (z ∷ zs))) word (resting rows pending) ≡ [] → ⊥
long_fault_of word z zs other rows pending e =
    named (bytes_eq (codes "stop") (before_first (λ x. x == 61) (z ∷ zs))) refl (has_byte 61 (z ∷ zs)) refl
  where
    named : (b : Bool) → bytes_eq (codes "stop") (before_first (λ x. x == 61) (z ∷ zs)) ≡ b → (v : Bool) → has_byte 61 (z ∷ zs) ≡ v → ⊥
    named false is_named v valued =
        let fault : flag_word_fault shape.rules false (Some (name_and_value (z ∷ zs))) word (resting rows pending) ≡ kind.UnknownArgument ∷ [] = rw is_named refl in
        cc
    named true is_named true valued =
        let fault : flag_word_fault shape.rules false (Some (name_and_value (z ∷ zs))) word (resting rows pending) ≡ kind.TooManyValues ∷ [] = rw (is_named, valued) refl in
        cc
    named true is_named false valued =
        let same : codes "stop" ≡ z ∷ zs = (bytes_eq-Decides _ _).0 is_named ∙ all_before (z ∷ zs) valued in
        let yes : bytes_eq (z ∷ zs) (codes "stop") ≡ true = subst (λ t. bytes_eq t (codes "stop") ≡ true) same refl in
        cc

-- a hyphen is a character
two_dashed : (rest : Text) → is_dashed (45 ∷ 45 ∷ rest) ≡ true
unfolding chars
two_dashed [] = refl
two_dashed (z ∷ zs) = refl

refused_long : (z : ℕ) (zs : Text) → bytes_eq (z ∷ zs) (codes "stop") ≡ false → IsRefused (45 ∷ 45 ∷ z ∷ zs)
refused_long z zs other = record {
  dashes = refl;
  stop = other;
  dashed = two_dashed (z ∷ zs);
  fault = long_fault_of (45 ∷ 45 ∷ z ∷ zs) z zs other;
}

-- which form a word has
after_two : (ys : Text) → Form (45 ∷ 45 ∷ ys)
after_two [] = is_dashes refl
after_two (z ∷ zs) = go (bytes_eq (z ∷ zs) (codes "stop")) refl
  where
    go : (b : Bool) → bytes_eq (z ∷ zs) (codes "stop") ≡ b → Form (45 ∷ 45 ∷ z ∷ zs)
    go true e = is_stop (ap (λ t. 45 ∷ 45 ∷ t) ((bytes_eq-Decides _ _).0 e))
    go false e = is_refused (refused_long z zs e)

after_one : (y : ℕ) (ys : Text) (b : Bool) → (y == 45) ≡ b → Form (45 ∷ y ∷ ys)
after_one y ys true e = subst (λ n. Form (45 ∷ n ∷ ys)) (sym (eqb-true y 45 e)) (after_two ys)
after_one y ys false e = go (chars (y ∷ ys)) refl
  where
    go : (cs : List ℕ) → chars (y ∷ ys) ≡ cs → Form (45 ∷ y ∷ ys)
    go [] none = is_name (rest_name y ys e none)
    go (c ∷ cs) some = is_refused (refused_short y ys c cs e some)

after_none : (x : ℕ) (rest : Text) (b : Bool) → (x == 45) ≡ b → Form (x ∷ rest)
after_none x [] true e = subst (λ n. Form (n ∷ [])) (sym (eqb-true x 45 e)) (is_name hyphen_name)
after_none x (y ∷ ys) true e = subst (λ n. Form (n ∷ y ∷ ys)) (sym (eqb-true x 45 e)) (after_one y ys (y == 45) refl)
after_none x rest false e = is_name (bare_name (x ∷ rest) (rw e refl) (rw e refl) (rw e refl) (rw e refl) (rw e refl))

pub form_of : (word : Text) → Form word
form_of [] = is_name (bare_name [] refl refl refl refl refl)
form_of (x ∷ xs) = after_none x xs (x == 45) refl
