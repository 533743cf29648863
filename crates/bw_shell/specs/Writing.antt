-- What a writer holds after a text was written to it (the contract of std's Write, for a whole text).
use Rattle.std.specs.Prelude.{◌≡◌, ℕ, List, ◌++◌, Option, Result, MatchResult}
use Rattle.std.specs.Io.KnownBytes.{Appends}

-- the known bytes grew by a prefix of the text
pub record AppendsPrefix (old new : Option (List ℕ)) (text : List ℕ) : Type 0 where
  pub prefix : List ℕ
  pub rest : List ℕ
  pub split : text ≡ prefix ++ rest
  pub grown : Appends old new prefix

-- the text was written, or a prefix of it where writing failed
abbrev pub Wrote : {U E : Type 0} → Option (List ℕ) → Option (List ℕ) → List ℕ → Result U E → Type 0
Wrote old new text result = MatchResult result (λ _. Appends old new text) (λ _. AppendsPrefix old new text)
