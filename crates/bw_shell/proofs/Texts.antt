-- Texts that are written one after the other.
use Rattle.std.proofs.Common.{◌≡◌, ℕ, List, [], ◌++◌, Option, Some, None, Result, Ok, Err, IsErr, take, drop, refl, sym, ap, ◌∙◌, subst, append_assoc, append-nil, take-append-drop}
use Rattle.std.specs.Io.KnownBytes.{Appends, Keeps}
use Rattle.std.specs.List.{flat_map}
use Rattle.std.proofs.Common.{codes}
use Rattle.bw_shell.specs.Writing.{AppendsPrefix, Wrote}

pub appends_twice : (a b c : Option (List ℕ)) (x y : List ℕ) → Appends a b x → Appends b c y → Appends a c (x ++ y)
appends_twice None b c x y h k = tt
appends_twice (Some xs) None c x y h k = absurd h
appends_twice (Some xs) (Some bs) None x y h k = absurd k
appends_twice (Some xs) (Some bs) (Some cs) x y h k = k ∙ ap (λ l. l ++ y) h ∙ append_assoc xs x y

pub appends_none : (a : Option (List ℕ)) → Appends a a []
appends_none None = tt
appends_none (Some xs) = sym (append-nil xs)

pub appends_kept : (a b c : Option (List ℕ)) (x : List ℕ) → Appends a b x → Keeps b c → Appends a c x
appends_kept None b c x h k = tt
appends_kept (Some xs) None c x h k = absurd h
appends_kept (Some xs) (Some bs) None x h k = absurd k
appends_kept (Some xs) (Some bs) (Some cs) x h k = k ∙ h

-- The text was written up to the rest.
pub record Progress (old now : Option (List ℕ)) (text rest : List ℕ) : Type 0 where
  pub prefix : List ℕ
  pub split : text ≡ prefix ++ rest
  pub grown : Appends old now prefix

pub start : (old : Option (List ℕ)) (text : List ℕ) → Progress old old text text
start old text = record { prefix = []; split = refl; grown = appends_none old }

-- one piece more
pub more : (old now new : Option (List ℕ)) (text piece rest : List ℕ) → Progress old now text (piece ++ rest) → Appends now new piece → Progress old new text rest
more old now new text piece rest p grown = record {
  prefix = p.prefix ++ piece;
  split = p.split ∙ sym (append_assoc p.prefix piece rest);
  grown = appends_twice old now new p.prefix piece p.grown grown;
}

-- the last piece
pub last : (old now new : Option (List ℕ)) (text piece : List ℕ) → Progress old now text piece → Appends now new piece → Appends old new text
last old now new text piece p grown = rw p.split (appends_twice old now new p.prefix piece p.grown grown)

-- nothing is left
pub done : (old now : Option (List ℕ)) (text : List ℕ) → Progress old now text [] → Appends old now text
done old now text p = rw (p.split, append-nil p.prefix) p.grown

-- writing failed in a piece
pub fails : (old now new : Option (List ℕ)) (text piece rest : List ℕ) → Progress old now text (piece ++ rest) → AppendsPrefix now new piece → AppendsPrefix old new text
fails old now new text piece rest p f = record {
  prefix = p.prefix ++ f.prefix;
  rest = f.rest ++ rest;
  split = p.split ∙ ap (λ l. p.prefix ++ (l ++ rest)) f.split ∙ ap (λ l. p.prefix ++ l) (append_assoc f.prefix f.rest rest) ∙ sym (append_assoc p.prefix f.prefix (f.rest ++ rest));
  grown = appends_twice old now new p.prefix f.prefix p.grown f.grown;
}

-- the texts after the first, each after a comma
abbrev pub others_text : {A : Type 0} → (A → List ℕ) → List A → List ℕ
others_text text others = flat_map (λ item. codes "," ++ text item) others

-- the first n bytes of what is left
pub piece_more : (old now new : Option (List ℕ)) (text rest : List ℕ) (n : ℕ) → Progress old now text rest → Appends now new (take n rest) → Progress old new text (drop n rest)
piece_more old now new text rest n p grown =
    more old now new text (take n rest) (drop n rest) (rw (take-append-drop n rest) p) grown

-- a piece after the pieces that were written
pub prefix_after : (a b c : Option (List ℕ)) (x y : List ℕ) → Appends a b x → AppendsPrefix b c y → AppendsPrefix a c (x ++ y)
prefix_after a b c x y grown f = record {
  prefix = x ++ f.prefix;
  rest = f.rest;
  split = ap (λ l. x ++ l) f.split ∙ sym (append_assoc x f.prefix f.rest);
  grown = appends_twice a b c x f.prefix grown f.grown;
}

-- a prefix of a text is one of a longer text
pub prefix_before : (a b : Option (List ℕ)) (x y : List ℕ) → AppendsPrefix a b x → AppendsPrefix a b (x ++ y)
prefix_before a b x y f = record {
  prefix = f.prefix;
  rest = f.rest ++ y;
  split = ap (λ l. l ++ y) f.split ∙ append_assoc f.prefix f.rest y;
  grown = f.grown;
}

pub wrote_prefix : {U E : Type 0} (a b : Option (List ℕ)) (x : List ℕ) (r : Result U E) → IsErr r → AppendsPrefix a b x → Wrote a b x r
wrote_prefix a b x (Ok u) h f = absurd (cc)
wrote_prefix a b x (Err e) h f = f

pub wrote_whole : {U E : Type 0} (a b c : Option (List ℕ)) (x y : List ℕ) (r : Result U E) → Appends a b x → Wrote b c y r → Wrote a c (x ++ y) r
wrote_whole a b c x y (Ok u) grown w = appends_twice a b c x y grown w
wrote_whole a b c x y (Err e) grown w = prefix_after a b c x y grown w

-- the same, where the whole is given by an equation
pub prefix_of : (a b : Option (List ℕ)) (x y : List ℕ) → x ≡ y → AppendsPrefix a b x → AppendsPrefix a b y
prefix_of a b x y e f = subst (AppendsPrefix a b) e f
