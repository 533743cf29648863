-- A reader between two records gives the records that are left, one after the other.
use Rattle.std.proofs.Common.{Bool, Bor, inl, IsSome, List, None, Option, Some, [], ap, arith, cond, false, length, refl, suc, true, zero, ℕ, ◌+◌, ◌<◌, ◌≡◌, ◌≤◌, ◌∙◌, ◌∷◌, ◌++◌}
use Rattle.csv.specs.Machine.{Read, after_end, ends_at_end, ends_with, fields_after, field_after, in_field, is_byte, is_end, next_record, start_field, start_record, step}
use Rattle.csv.specs.Reading.{NextIs, ReadRecord, ReadsNext, default_config, is_bom, is_flexible, records_from, records_next, strip_bom, took_first}
use Rattle.csv.specs.declared.parser.Action.{Action}
use Rattle.csv.specs.declared.parser.Config.{Config}
use Rattle.csv.specs.declared.parser.State.{State}
use Rattle.csv.specs.declared.parser.State.TheVariants as st
use Rattle.csv.specs.declared.parser.Terminator.{Terminator}
use Rattle.csv.specs.declared.parser.Terminator.TheVariants as term
use Rattle.csv.specs.declared.reader.Reader.{Reader}
use Rattle.bw_csvload.specs.Records.{IsReading, bytes_left, records_in, records_left}
use Rattle.bw_csvload.specs.Rows.{csv_records}
use Rattle.std.specs.Prelude.{◌&&◌, ◌==◌}

-- where this ends a record, the state is between two records
abbrev Ends : State × Action → Type 0
Ends p = is_end p.1 ≡ true → ends_at_end p.0 ≡ false

either_ends : (b : Bool) (p q : State × Action) → Ends p → Ends q → Ends (cond b p q)
either_ends true p q one other = one
either_ends false p q one other = other

after_end-between : (t : Terminator) (c : ℕ) → ends_at_end (after_end t c) ≡ false
after_end-between term.CRLF c = by (c == 13)
  where
    by : (b : Bool) → ends_at_end (cond b st.AfterCr st.StartRecord) ≡ false
    by true = refl
    by false = refl
after_end-between (term.Any t) c = refl

in_field-ends : (cfg : Config) (c : ℕ) → Ends (in_field cfg c)
in_field-ends cfg c =
    either_ends (c == cfg.delimiter) _ _ (λ h. cc h) (either_ends (ends_with cfg.terminator c) _ _ (λ h. after_end-between cfg.terminator c) (λ h. cc h))

start_field-ends : (cfg : Config) (c : ℕ) → Ends (start_field cfg c)
start_field-ends cfg c = either_ends (cfg.quoting && (c == cfg.quote)) _ _ (λ h. cc h) (in_field-ends cfg c)

start_record-ends : (cfg : Config) (c : ℕ) → Ends (start_record cfg c)
start_record-ends cfg c =
    either_ends (ends_with cfg.terminator c) _ _ (λ h. cc h) (either_ends (is_byte cfg.comment c) _ _ (λ h. cc h) (start_field-ends cfg c))

step-ends : (cfg : Config) (s : State) (c : ℕ) → Ends (step cfg s c)
step-ends cfg st.StartRecord c = start_record-ends cfg c
step-ends cfg st.StartField c = start_field-ends cfg c
step-ends cfg st.InField c = in_field-ends cfg c
step-ends cfg st.InQuoted c = either_ends (cfg.quoting && (c == cfg.quote)) _ _ (λ h. cc h) (either_ends (cfg.quoting && is_byte cfg.escape c) _ _ (λ h. cc h) (λ h. cc h))
step-ends cfg st.InEscape c = λ h. cc h
step-ends cfg st.AfterQuote c = either_ends (cfg.quoting && cfg.double_quote && (c == cfg.quote)) _ _ (λ h. cc h) (in_field-ends cfg c)
step-ends cfg st.InComment c = either_ends (c == 10) _ _ (λ h. cc h) (λ h. cc h)
step-ends cfg st.AfterCr c = either_ends (c == 10) _ _ (λ h. cc h) (start_record-ends cfg c)

-- a record leaves these bytes at most, and a state between two records
pub record Leaves (p : Read) (n : ℕ) : Type 0 where
  pub shorter : length p.2 ≤ n
  pub between : ends_at_end p.1 ≡ false

-- what the first byte of a record leaves, by what the bytes after it leave
after_byte : (b : Bool) (o : Option Read) (fields : List (List ℕ)) (s : State) (rest : List ℕ) (p : Read) → (b ≡ true → ends_at_end s ≡ false)
    → (o ≡ Some p → Leaves p (length rest)) → cond b (Some (fields, s, rest)) o ≡ Some p → Leaves p (length rest)
after_byte true o fields s rest p between more e =
    let q : ◌≡◌ {A = Read} (fields, s, rest) p = cc in rw (← q) (record { shorter = omega arith; between = between refl })
after_byte false o fields s rest p between more e = more e

next-leaves : (cfg : Config) (s : State) (fields : List (List ℕ)) (field xs : List ℕ) (p : Read) → next_record cfg s fields field xs ≡ Some p → Leaves p (length xs)
unfolding next_record
next-leaves cfg s fields field [] p e =
    after_byte (ends_at_end s) None (fields ++ (field ∷ [])) st.StartRecord [] p (λ h. refl) (λ h. absurd (cc h)) e
next-leaves cfg s fields field (c ∷ rest) p e =
    let more = after_byte (is_end (step cfg s c).1) (next_record cfg (step cfg s c).0 (fields_after (step cfg s c).1 fields field) (field_after (step cfg s c).1 c field) rest) (fields_after (step cfg s c).1 fields field) (step cfg s c).0 rest p (step-ends cfg s c)
    (next-leaves cfg (step cfg s c).0 (fields_after (step cfg s c).1 fields field) (field_after (step cfg s c).1 c field) rest p) e in
    let shorter = more.shorter in
    record { shorter = omega arith; between = more.between }

-- a record that begins between two records takes a byte at least
pub record-leaves : (cfg : Config) (s : State) (xs : List ℕ) (p : Read) → ends_at_end s ≡ false → next_record cfg s [] [] xs ≡ Some p → (length p.2 < length xs) × (ends_at_end p.1 ≡ false)
unfolding next_record
record-leaves cfg s [] p start e = absurd (cc (rw start at e))
record-leaves cfg s (c ∷ rest) p start e =
    let more = after_byte (is_end (step cfg s c).1) (next_record cfg (step cfg s c).0 (fields_after (step cfg s c).1 [] []) (field_after (step cfg s c).1 c []) rest) (fields_after (step cfg s c).1 [] []) (step cfg s c).0 rest p (step-ends cfg s c)
    (next-leaves cfg (step cfg s c).0 (fields_after (step cfg s c).1 [] []) (field_after (step cfg s c).1 c []) rest p) e in
    let shorter = more.shorter in
    (omega arith, more.between)

-- how many records are asked for does not matter, where there are no more
enough : (n m : ℕ) (s : State) (xs : List ℕ) → ends_at_end s ≡ false → length xs < n → length xs < m → records_from default_config n s xs ≡ records_from default_config m s xs
unfolding records_from
enough zero m s xs start big other = absurd (omega arith)
enough (suc n) zero s xs start big other = absurd (omega arith)
enough (suc n) (suc m) s xs start big other =
    by (next_record default_config s [] [] xs) refl (λ t ys between shorter. enough n m t ys between (omega arith) (omega arith))
  where
    by : (o : Option Read) → next_record default_config s [] [] xs ≡ o
        → ((t : State) (ys : List ℕ) → ends_at_end t ≡ false → length ys < length xs → records_from default_config n t ys ≡ records_from default_config m t ys)
        → records_next (records_from default_config n) o ≡ records_next (records_from default_config m) o
    by None e same = refl
    by (Some p) e same =
        let less = record-leaves default_config s xs p start e in
        ap (λ more. p.0 ∷ more) (same p.1 p.2 less.1 less.0)

-- a read of a record that was there
pub record Read_on (s s2 : State) (source after : Option (List ℕ)) (fields : List (List ℕ)) : Type 0 where
  pub records : records_in s source ≡ fields ∷ records_in s2 after
  pub known : IsSome after
  pub between : ends_at_end s2 ≡ false

found-is : (o : Option Read) (fields : List (List ℕ)) (s : State) (rest : List ℕ) → NextIs o true fields s rest → o ≡ Some (fields, s, rest)
found-is None fields s rest h = absurd (cc h)
found-is (Some p) fields s rest h = let e : ◌≡◌ {A = Read} p (fields, s, rest) = rw (h.1, h.2, h.3) refl in ap Some e

pub found-record : (s s2 : State) (known after : Option (List ℕ)) (fields : List (List ℕ)) → ends_at_end s ≡ false → IsSome known
    → ReadsNext default_config s known after true fields s2 → Read_on s s2 known after fields
unfolding records_from
found-record s s2 None after fields start there read = absurd (cc there)
found-record s s2 (Some xs) None fields start there read = absurd read
found-record s s2 (Some xs) (Some ys) fields start there read =
    let e = found-is (next_record default_config s [] [] xs) fields s2 ys read in
    let less = record-leaves default_config s xs (fields, s2, ys) start e in
    let fuel : length xs + 1 ≡ suc (length xs) = omega arith in
    record {
      records = ap (λ n. records_from default_config n s xs) fuel ∙ ap (records_next (records_from default_config (length xs))) e ∙ ap (λ more. fields ∷ more) (enough (length xs) (length ys + 1) s2 ys less.1 less.0 (omega arith));
      known = refl;
      between = less.1;
    }

none-is : (o : Option Read) (fields : List (List ℕ)) (s : State) (rest : List ℕ) → NextIs o false fields s rest → o ≡ None
none-is None fields s rest h = refl
none-is (Some p) fields s rest h = absurd (cc h.0)

pub no-record : (s s2 : State) (known after : Option (List ℕ)) (fields : List (List ℕ)) → IsSome known → ReadsNext default_config s known after false fields s2 → records_in s known ≡ []
unfolding records_from
no-record s s2 None after fields there read = absurd (cc there)
no-record s s2 (Some xs) None fields there read = absurd read
no-record s s2 (Some xs) (Some ys) fields there read =
    let fuel : length xs + 1 ≡ suc (length xs) = omega arith in
    ap (λ n. records_from default_config n s xs) fuel ∙ ap (records_next (records_from default_config (length xs))) (none-is (next_record default_config s [] [] xs) fields s2 ys read)

module _ (old new : Reader (Bor (List ℕ))) (fields : List (List ℕ)) (reading : IsReading old) where
  -- a read that found a record takes it from those that were left
  pub read-found : ReadRecord (λ (s : Bor (List ℕ)). Some s.now) old new true fields → took_first new ≡ true → is_flexible new ≡ is_flexible old → IsReading new × (records_left old ≡ fields ∷ records_left new)
  read-found read first flexible =
      let read_on = found-record old.state new.state (bytes_left old) (bytes_left new) fields reading.between reading.known (rw read.1 (rw reading.config at read.0)) in (
        record { config = read.2 ∙ reading.config; trim = read.3 ∙ reading.trim; flexible = flexible ∙ reading.flexible; ready = inl first; between = read_on.between; known = read_on.known },
        read_on.records,
      )

  -- a read that found none is at the end
  pub read-none : ReadRecord (λ (s : Bor (List ℕ)). Some s.now) old new false fields → records_left old ≡ []
  read-none read = no-record old.state new.state (bytes_left old) (bytes_left new) fields reading.known (rw read.1 (rw reading.config at read.0))

-- there are no more records than were asked for
pub length-records_from : (cfg : Config) (n : ℕ) (s : State) (xs : List ℕ) → length (records_from cfg n s xs) ≤ n
unfolding records_from
length-records_from cfg zero s xs = omega arith
length-records_from cfg (suc n) s xs = by (next_record cfg s [] [] xs) (length-records_from cfg n)
  where
    by : (o : Option Read) → ((t : State) (ys : List ℕ) → length (records_from cfg n t ys) ≤ n) → length (records_next (records_from cfg n) o) ≤ suc n
    by None h = omega arith
    by (Some p) h = let more = h p.1 p.2 in omega arith

pub length-strip_bom : (ys : List ℕ) → length (strip_bom ys) ≤ length ys
unfolding strip_bom
length-strip_bom [] = omega arith
length-strip_bom (a ∷ []) = omega arith
length-strip_bom (a ∷ b ∷ []) = omega arith
length-strip_bom (a ∷ b ∷ c ∷ rest) = by (is_bom a b c)
  where
    by : (m : Bool) → length (cond m rest (a ∷ b ∷ c ∷ rest)) ≤ length (a ∷ b ∷ c ∷ rest)
    by true = omega arith
    by false = omega arith

-- nor than there are bytes, and one
pub length-csv_records : (xs : List ℕ) → length (csv_records xs) ≤ length xs + 1
length-csv_records xs =
    let asked = length-records_from default_config (length (strip_bom xs) + 1) st.StartRecord (strip_bom xs) in
    omega (arith, length-strip_bom xs)
