-- What was appended so far, and what the rest gives, make the whole.
use Rattle.std.proofs.Common.{Err, Option, length-append, ℤ, List, Ok, Result, [], ap, ap₂, map, refl, sym, zero, ℕ, ◌+◌, ◌++◌, ◌*◌, ◌≡◌, ◌∙◌, ◌∷◌, add-one, append_assoc, arith, drop, drop-cons, get_or, length, suc, ◌<◌}
use Rattle.std.proofs.lemmas.Bool.Decides.{nat_tests}
use Rattle.std.proofs.lemmas.List.{append-nil, get_or-map, length-map}
use Rattle.std.proofs.lemmas.Slice.Zip.{get_or-zip, length-zip}
use Rattle.std.specs.Prelude.{true, ◌==◌}
use Rattle.std.specs.List.{All, zip}
use Rattle.bw_code.specs.declared.kind.ColumnType.{ColumnType}
use Rattle.bw_code.specs.declared.kind.ColumnType.TheVariants.{Integer}
use Rattle.bw_csvload.specs.Rows.{Appends, IsFault, Row, all_or_first, before, cell_at, lines_of, numbered, row_of}
use Rattle.bw_csvload.specs.declared.fault.CsvFault.{CsvFault}
use Rattle.bw_csvload.specs.declared.fault.CsvFault.TheVariants as fault
use Rattle.bw_csvload.proofs.Lines.{lines_push}

-- these in front of the rest, where that is no fault
abbrev pub after : {A : Type 0} → List A → Result (List A) CsvFault → Result (List A) CsvFault
after done (Ok rest) = Ok (done ++ rest)
after done (Err e) = Err e

-- what was appended to the old ones, and what the rest gives, make the whole
pub record Growing {A : Type 0} (whole : Result (List A) CsvFault) (old now : List A) (rest : Result (List A) CsvFault) : Type 0 where
  pub added : List A
  pub grown : now ≡ old ++ added
  pub goes_on : whole ≡ after added rest

module _ {A : Type 0} where
  after-before : (done : List A) (x : A) (rest : Result (List A) CsvFault) → after done (before (Ok x) rest) ≡ after (done ++ x ∷ []) rest
  after-before done x (Ok rest) = ap Ok (sym (append_assoc done (x ∷ []) rest))
  after-before done x (Err e) = refl

  after-nil : (rest : Result (List A) CsvFault) → rest ≡ after [] rest
  after-nil (Ok rest) = refl
  after-nil (Err e) = refl

  pub grow_start : (whole : Result (List A) CsvFault) (old : List A) → Growing whole old old whole
  grow_start whole old = record { added = []; grown = sym (append-nil old); goes_on = after-nil whole }

  pub grow_more : (whole : Result (List A) CsvFault) (old now : List A) (x : A) (rest : Result (List A) CsvFault) → Growing whole old now (before (Ok x) rest) → Growing whole old (now ++ x ∷ []) rest
  grow_more whole old now x rest g = record {
    added = g.added ++ x ∷ [];
    grown = ap (λ xs. xs ++ x ∷ []) g.grown ∙ append_assoc old g.added (x ∷ []);
    goes_on = g.goes_on ∙ after-before g.added x rest;
  }

  pub grow_done : (whole : Result (List A) CsvFault) (old now : List A) → Growing whole old now (Ok []) → Appends whole old now (Ok tt)
  grow_done whole old now g = (g.added, g.goes_on ∙ ap Ok (append-nil g.added), g.grown)

  -- a fault of the next one is the whole's
  pub grow_fault : (whole : Result (List A) CsvFault) (old now : List A) (e : CsvFault) (rest : Result (List A) CsvFault) → Growing whole old now (before (Err e) rest) → whole ≡ Err e
  grow_fault whole old now e rest g = g.goes_on

  pub is_fault : (whole : Result (List A) CsvFault) (e : CsvFault) → whole ≡ Err e → IsFault whole e
  is_fault whole fault.Memory h = tt
  is_fault whole (fault.Fields n) h = h
  is_fault whole (fault.NotInteger n m) h = h
  is_fault whole fault.Range h = h

module _ {A B : Type 0} (f : ℕ → A → Result B CsvFault) (xs : List A) (i : ℕ) (d x : A) (there : i < length xs) (is : get_or xs i d ≡ x) where
  -- the next one, and those after it
  pub numbered_next : (n : ℕ) → all_or_first (numbered f n (drop i xs)) ≡ before (f n x) (all_or_first (numbered f (n + 1) (drop (i + 1) xs)))
  numbered_next n =
      rw (add-one i) (ap (λ ys. all_or_first (numbered f n ys)) (drop-cons xs i d there) ∙ ap (λ y. before (f n y) (all_or_first (numbered f (n + 1) (drop (suc i) xs)))) is)

  -- the next one is a fault
  pub place_fault : (old now : List B) (e : CsvFault) → Growing (all_or_first (numbered f 1 xs)) old now (all_or_first (numbered f (i + 1) (drop i xs)))
      → f (i + 1) x ≡ Err e → IsFault (all_or_first (numbered f 1 xs)) e
  place_fault old now e g fault =
      is_fault (all_or_first (numbered f 1 xs)) e (g.goes_on ∙ ap (after g.added) (numbered_next (i + 1) ∙ ap (λ r. before r (all_or_first (numbered f (i + 1 + 1) (drop (i + 1) xs)))) fault))

  -- the next one is appended
  pub place_more : (old now : List B) (y : B) → Growing (all_or_first (numbered f 1 xs)) old now (all_or_first (numbered f (i + 1) (drop i xs)))
      → f (i + 1) x ≡ Ok y → Growing (all_or_first (numbered f 1 xs)) old (now ++ y ∷ []) (all_or_first (numbered f (i + 1 + 1) (drop (i + 1) xs)))
  place_more old now y g good =
      let next = numbered_next (i + 1) ∙ ap (λ r. before r (all_or_first (numbered f (i + 1 + 1) (drop (i + 1) xs)))) good in
      grow_more (all_or_first (numbered f 1 xs)) old now y (all_or_first (numbered f (i + 1 + 1) (drop (i + 1) xs))) (record { added = g.added; grown = g.grown; goes_on = g.goes_on ∙ ap (after g.added) next })

-- the row of a record of the right length
pub row_of-fits : (types : List ColumnType) (n : ℕ) (fields : List (List ℕ)) → length fields ≡ length types → row_of types n fields ≡ all_or_first (numbered (cell_at n) 1 (zip types fields))
row_of-fits types n fields e = let same : (length fields == length types) ≡ true = grind (arith, nat_tests) in rw same refl

-- the fields of columns of INTEGER alone
pub integer_fields : (types : List ColumnType) (fields : List (List ℕ)) → All (λ t. t ≡ Integer) types → length fields ≡ length types → zip types fields ≡ map (λ text. (Integer, text)) fields
integer_fields [] [] all same = refl
integer_fields [] (text ∷ fields) all same = absurd (omega (arith, same))
integer_fields (t ∷ types) [] all same = absurd (omega (arith, same))
integer_fields (t ∷ types) (text ∷ fields) all same =
    ap₂ (λ (first : ColumnType) rest. (first, text) ∷ rest) (all zero t (omega arith)) (integer_fields types fields (λ i other within. all (suc i) other (omega (arith, within))) (omega (arith, same)))

-- the field at a place of a record, beside its column's type
pub record IsThere {A : Type 0} (xs : List A) (i : ℕ) (d x : A) : Type 0 where
  pub inside : i < length xs
  pub is : get_or xs i d ≡ x

pub field_there : (types : List ColumnType) (fields : List (List ℕ)) (i : ℕ) (d : ColumnType) (text : List ℕ) → length fields ≡ length types → i < length types → get_or fields i [] ≡ text
    → IsThere {A = ColumnType × List ℕ} (zip types fields) i (d, []) (get_or types i d, text)
field_there types fields i d text same there is = record {
  inside = omega (arith, length-zip types fields);
  is = get_or-zip types fields i (d, []) there (omega arith) ∙ ap (λ field. (get_or types i d, field)) is;
}

pub integer_there : (fields : List (List ℕ)) (i : ℕ) (text : List ℕ) → i < length fields → get_or fields i [] ≡ text
    → IsThere {A = ColumnType × List ℕ} (map (λ field. (Integer, field)) fields) i (Integer, []) (Integer, text)
integer_there fields i text there is = record {
  inside = omega (arith, length-map {B = ColumnType × List ℕ} fields (λ field. (Integer, field)));
  is = get_or-map {Y = ColumnType × List ℕ} (λ field. (Integer, field)) fields i [] (Integer, []) there ∙ ap (λ field. (Integer, field)) is;
}

-- the rows so far, and what the rest gives, make the whole
pub record Loading (whole : Result (List Row) CsvFault) (columns count : ℕ) (cells : List (Option ℤ)) (rest : Result (List Row) CsvFault) : Type 0 where
  pub filled : length cells ≡ count * columns
  pub goes_on : whole ≡ after (lines_of columns count cells) rest

pub load_start : (whole : Result (List Row) CsvFault) (columns : ℕ) → Loading whole columns 0 [] whole
load_start whole columns = record { filled = omega arith; goes_on = after-nil whole }

pub load_more : (whole : Result (List Row) CsvFault) (columns count : ℕ) (cells row : List (Option ℤ)) (rest : Result (List Row) CsvFault) → length row ≡ columns
    → Loading whole columns count cells (before (Ok row) rest) → Loading whole columns (count + 1) (cells ++ row) rest
load_more whole columns count cells row rest wide l =
    let filled = l.filled in
    record {
      filled = omega (arith, length-append cells row);
      goes_on = l.goes_on ∙ after-before (lines_of columns count cells) row rest ∙ ap (λ done. after done rest) (sym (lines_push columns count cells row filled wide) ∙ ap (λ n. lines_of columns n (cells ++ row)) (sym (add-one count)));
    }

pub load_fault : (whole : Result (List Row) CsvFault) (columns count : ℕ) (cells : List (Option ℤ)) (next : Result Row CsvFault) (rest : Result (List Row) CsvFault) (e : CsvFault)
    → Loading whole columns count cells (before next rest) → IsFault next e → IsFault whole e
load_fault whole columns count cells next rest fault.Memory l h = tt
load_fault whole columns count cells next rest (fault.Fields n) l h = l.goes_on ∙ ap (λ x. after (lines_of columns count cells) (before x rest)) h
load_fault whole columns count cells next rest (fault.NotInteger n m) l h = l.goes_on ∙ ap (λ x. after (lines_of columns count cells) (before x rest)) h
load_fault whole columns count cells next rest fault.Range l h = l.goes_on ∙ ap (λ x. after (lines_of columns count cells) (before x rest)) h

pub load_done : (whole : Result (List Row) CsvFault) (columns count : ℕ) (cells : List (Option ℤ)) → Loading whole columns count cells (Ok []) → whole ≡ Ok (lines_of columns count cells)
load_done whole columns count cells l = l.goes_on ∙ ap Ok (append-nil (lines_of columns count cells))

-- one record more
pub load_next : (whole : Result (List Row) CsvFault) (types : List ColumnType) (count n m : ℕ) (cells row : List (Option ℤ)) (fields : List (List ℕ)) (left more : List (List (List ℕ)))
    → Loading whole (length types) count cells (all_or_first (numbered (row_of types) n left)) → left ≡ fields ∷ more → row_of types n fields ≡ Ok row → length row ≡ length types → m ≡ n + 1
    → Loading whole (length types) (count + 1) (cells ++ row) (all_or_first (numbered (row_of types) m more))
load_next whole types count n m cells row fields left more l next good wide e =
    load_more whole (length types) count cells row (all_or_first (numbered (row_of types) m more)) wide (rw (next, good, ← e) at l)

-- one record more, which is a fault
pub load_stop : (whole : Result (List Row) CsvFault) (types : List ColumnType) (count n : ℕ) (cells : List (Option ℤ)) (fields : List (List ℕ)) (left more : List (List (List ℕ))) (e : CsvFault)
    → Loading whole (length types) count cells (all_or_first (numbered (row_of types) n left)) → left ≡ fields ∷ more → IsFault (row_of types n fields) e → IsFault whole e
load_stop whole types count n cells fields left more e l next fault =
    load_fault whole (length types) count cells (row_of types n fields) (all_or_first (numbered (row_of types) (n + 1) more)) e (rw next at l) fault
