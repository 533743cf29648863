-- A loop that reads values with a separator between two of them.
use Rattle.std.proofs.Common.{◌≡◌, ℕ, zero, suc, ◌<◌, List, [], ◌∷◌, ◌++◌, length, map, Option, Some, None, refl, sym, ap, ◌∙◌, append_assoc, append-nil, length-append, arith}
use Rattle.bw_lex.specs.declared.token.Symbol.TheVariants as s
use Rattle.bw_lex.specs.declared.fault.SqlFault.{SqlFault}
use Rattle.bw_lex.specs.declared.fault.SqlFault.TheVariants as faults
use Rattle.bw_lex.specs.declared.token.CompareOp.{CompareOp}
use Rattle.bw_sql.specs.declared.terminal.Terminal.{Terminal}
use Rattle.bw_sql.specs.declared.terminal.Terminal.TheVariants as t
use Rattle.bw_sql.specs.declared.keyword.Keyword.TheVariants as k
use Rattle.bw_sql.specs.declared.tree.Condition.{Condition}
use Rattle.bw_sql.specs.declared.tree.Operand.{Operand}
use Rattle.bw_sql.specs.Reading.{Fails, Read, after_and, after_comma, after_or, more_at, parts_at, range_at, tail_at, with_first, with_front}
use Rattle.bw_sql.specs.Tree.{condition_of}
use Rattle.std.proofs.lemmas.List.{map-append}

with_front-with_first : {A : Type 0} (xs : List A) (x : A) (read : Read (List A)) → with_front xs (with_first x read) ≡ with_front (xs ++ x ∷ []) read
with_front-with_first xs x None = refl
with_front-with_first xs x (Some y) = ap (λ l. Some (l, y.1)) (sym (append_assoc xs (x ∷ []) y.0))

module _ {A : Type 0} (after : List Terminal → Option (List Terminal)) (read : List Terminal → Read A) where
  more_at-next : (m : ℕ) (xs : List A) (rest mid : List Terminal) (x : A) (left : List Terminal) → after rest ≡ Some mid → read mid ≡ Some (x, left) → with_front xs (more_at after read (suc m) rest) ≡ with_front (xs ++ x ∷ []) (more_at after read m left)
  unfolding more_at
  more_at-next m xs rest mid x left goes reads = rw (goes, reads) (with_front-with_first xs x (more_at after read m left))

  more_at-fails : (m : ℕ) (xs : List A) (rest mid : List Terminal) → after rest ≡ Some mid → read mid ≡ None → with_front xs (more_at after read (suc m) rest) ≡ None
  unfolding more_at
  more_at-fails m xs rest mid goes fails = rw (goes, fails) refl

  more_at-done : (m : ℕ) (xs : List A) (rest : List Terminal) → after rest ≡ None → with_front xs (more_at after read (suc m) rest) ≡ Some (xs, rest)
  unfolding more_at
  more_at-done m xs rest stops = rw (stops, append-nil) refl

  parts_at-first : (n : ℕ) (old : List Terminal) (x : A) (rest : List Terminal) → read old ≡ Some (x, rest) → parts_at after read n old ≡ with_front (x ∷ []) (more_at after read n rest)
  unfolding parts_at
  parts_at-first n old x rest reads = rw reads refl

  parts_at-fails : (n : ℕ) (old : List Terminal) → read old ≡ None → parts_at after read n old ≡ None
  unfolding parts_at
  parts_at-fails n old fails = rw fails refl

module _ {A : Type 0} (after : List Terminal → Option (List Terminal)) (read : ℕ → List Terminal → Read A) where
  -- each amount of fuel that is enough gives this
  abbrev pub Always : List Terminal → Read A → Type 0
  Always old found = (n : ℕ) → length old < n → read n old ≡ found

  abbrev pub AllFound : List Terminal → Read (List A) → Type 0
  AllFound old found = (n : ℕ) → length old < n → parts_at after (read n) n old ≡ found

  -- what is read from rest on, with xs before it, is what is read from old on
  abbrev pub GoesOn : List Terminal → List A → List Terminal → ℕ → Type 0
  GoesOn old xs rest n = (m : ℕ) × (length rest < suc m) × (with_front xs (more_at after (read n) (suc m) rest) ≡ parts_at after (read n) n old)

  -- from old the values xs were read, and rest is left
  pub record Runs (old : List Terminal) (xs : List A) (rest : List Terminal) : Type 0 where
    pub shorter : length rest < length old
    pub some : 0 < length xs
    pub reads : (n : ℕ) → length old < n → GoesOn old xs rest n

  at_first : (old : List Terminal) (x : A) (rest : List Terminal) → length rest < length old → Always old (Some (x, rest)) → (n : ℕ) → length old < n → GoesOn old (x ∷ []) rest n
  at_first old x rest shorter always zero h = absurd (omega arith)
  at_first old x rest shorter always (suc n) h =
      (n, omega arith, sym (parts_at-first after (read (suc n)) (suc n) old x rest (always (suc n) h)))

  pub first : (old : List Terminal) (x : A) (rest : List Terminal) → length rest < length old → Always old (Some (x, rest)) → Runs old (x ∷ []) rest
  first old x rest shorter always =
      record { shorter = shorter; some = omega arith; reads = at_first old x rest shorter always }

  pub first_fails : (old : List Terminal) → Always old None → AllFound old None
  first_fails old always n h = parts_at-fails after (read n) n old (always n h)

  module _ (old : List Terminal) (xs : List A) (rest : List Terminal) (runs : Runs old xs rest) where
    at_next : (mid : List Terminal) (x : A) (left : List Terminal) → after rest ≡ Some mid → length mid < length rest → length left < length mid → Always mid (Some (x, left)) → (n : ℕ) → GoesOn old xs rest n → length mid < n → GoesOn old (xs ++ x ∷ []) left n
    at_next mid x left goes less shorter always n (zero, fits, same) h = absurd (omega arith)
    at_next mid x left goes less shorter always n (suc m, fits, same) h =
        (m, omega arith, sym (more_at-next after (read n) (suc m) xs rest mid x left goes (always n h)) ∙ same)

    pub next : (mid : List Terminal) (x : A) (left : List Terminal) → after rest ≡ Some mid → length mid < length rest → length left < length mid → Always mid (Some (x, left)) → Runs old (xs ++ x ∷ []) left
    next mid x left goes less shorter always =
        record {
          shorter = omega (arith, runs.shorter);
          some = omega (arith, length-append xs (x ∷ []));
          reads = λ n h. at_next mid x left goes less shorter always n (runs.reads n h) (omega (arith, runs.shorter));
        }

    pub next_fails : (mid : List Terminal) → after rest ≡ Some mid → length mid < length rest → Always mid None → AllFound old None
    next_fails mid goes less always n h =
        let r = runs.reads n h in
        sym r.2 ∙ more_at-fails after (read n) r.0 xs rest mid goes (always n (omega (arith, runs.shorter)))

    pub done : after rest ≡ None → AllFound old (Some (xs, rest))
    done stops n h = let r = runs.reads n h in sym r.2 ∙ more_at-done after (read n) r.0 xs rest stops

module _ {A : Type 0} (after : List Terminal → Option (List Terminal)) (read : ℕ → List Terminal → Read A) where
  -- the first value isn't read
  pub fails_first : (e : SqlFault) (old : List Terminal) → ((n : ℕ) → length old < n → Fails e (read n old)) → (n : ℕ) → length old < n → Fails e (parts_at after (read n) n old)
  fails_first faults.Memory old fails n h = tt
  fails_first faults.Syntax old fails n h = first_fails after read old fails n h
  fails_first faults.TooLong old fails n h = absurd (fails n h)
  fails_first faults.TooDeep old fails n h = absurd (fails n h)
  fails_first faults.BigNumber old fails n h = absurd (fails n h)

  -- a later value isn't read
  pub fails_next : (e : SqlFault) (old : List Terminal) (xs : List A) (rest mid : List Terminal) → Runs after read old xs rest → after rest ≡ Some mid → length mid < length rest → ((n : ℕ) → length mid < n → Fails e (read n mid)) → (n : ℕ) → length old < n → Fails e (parts_at after (read n) n old)
  fails_next faults.Memory old xs rest mid runs goes less fails n h = tt
  fails_next faults.Syntax old xs rest mid runs goes less fails n h =
      next_fails after read old xs rest runs mid goes less fails n h
  fails_next faults.TooLong old xs rest mid runs goes less fails n h = absurd (fails n (omega (arith, runs.shorter)))
  fails_next faults.TooDeep old xs rest mid runs goes less fails n h = absurd (fails n (omega (arith, runs.shorter)))
  fails_next faults.BigNumber old xs rest mid runs goes less fails n h = absurd (fails n (omega (arith, runs.shorter)))

-- no comma is next
pub after_comma-none : (ts : List Terminal) → ((us : List Terminal) → ts ≡ t.Symbol s.Comma ∷ us → ⊥) → after_comma ts ≡ None
after_comma-none [] h = refl
after_comma-none (t.Symbol s.Comma ∷ ts) h = absurd (h ts refl)
after_comma-none (_ ∷ ts) h = refl

-- no OR is next
pub after_or-none : (ts : List Terminal) → ((us : List Terminal) → ts ≡ t.Keyword k.Or ∷ us → ⊥) → after_or ts ≡ None
after_or-none [] h = refl
after_or-none (t.Keyword k.Or ∷ ts) h = absurd (h ts refl)
after_or-none (_ ∷ ts) h = refl

-- no AND is next
pub after_and-none : (ts : List Terminal) → ((us : List Terminal) → ts ≡ t.Keyword k.And ∷ us → ⊥) → after_and ts ≡ None
after_and-none [] h = refl
after_and-none (t.Keyword k.And ∷ ts) h = absurd (h ts refl)
after_and-none (_ ∷ ts) h = refl

-- one more condition in a vector
pub conditions_push : (old new : List Condition) (c : Condition) → new ≡ old ++ c ∷ [] → map condition_of new ≡ map condition_of old ++ condition_of c ∷ []
conditions_push old new c e = ap (map condition_of) e ∙ map-append condition_of old (c ∷ [])

-- neither IS, NOT nor a comparison is next
pub tail_at-range : (n : ℕ) (x : Operand) (ts : List Terminal) → ((us : List Terminal) → ts ≡ t.Keyword k.Is ∷ us → ⊥) → ((us : List Terminal) → ts ≡ t.Keyword k.Not ∷ us → ⊥) → ((op : CompareOp) (us : List Terminal) → ts ≡ t.Symbol (s.Compare op) ∷ us → ⊥) → tail_at n x ts ≡ range_at n x ts
unfolding tail_at
tail_at-range n x [] no_is no_not no_compare = refl
tail_at-range n x (t.Symbol (s.Compare op) ∷ ts) no_is no_not no_compare = absurd (no_compare op ts refl)
tail_at-range n x (t.Keyword k.Is ∷ ts) no_is no_not no_compare = absurd (no_is ts refl)
tail_at-range n x (t.Keyword k.Not ∷ ts) no_is no_not no_compare = absurd (no_not ts refl)
tail_at-range n x (_ ∷ ts) no_is no_not no_compare = refl
