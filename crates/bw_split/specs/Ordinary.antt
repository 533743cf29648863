-- Bytes outside texts and comments: a special one begins a text, a cut or a comment, and an ordinary one begins none of these.
use Rattle.std.specs.Prelude.{ℕ, Bool, not, ◌&&◌, ◌||◌, ◌==◌, if◌then◌else◌, List, [], ◌∷◌}
use Rattle.std.specs.List.{prefix_len}
use Rattle.bw_lex.specs.Fronts.{is_plain}

-- whether a byte before this one begins a text, a cut or a comment
abbrev pub begins_before : ℕ → ℕ → Bool
begins_before next b = (b == 39 || b == 59) || (b == 45 && next == 45)

-- the same before these bytes: if there are none, a `-` may begin a comment
abbrev pub is_special : ℕ → List ℕ → Bool
is_special b [] = not (is_plain b)
is_special b (next ∷ rest) = begins_before next b

-- 1 for each byte that begins a text, a cut or a comment, and 0 for each other
abbrev pub specials : List ℕ → List ℕ
specials [] = []
specials (b ∷ bytes) = (if is_special b bytes then 1 else 0) ∷ specials bytes

-- how many leading bytes begin none of these
abbrev pub ordinary_len : List ℕ → ℕ
ordinary_len bytes = prefix_len (λ x. x == 0) (specials bytes)
