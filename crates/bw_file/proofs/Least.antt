-- How long a file is at least, and what its front tells.
use Rattle.std.proofs.Common.{All, List, None, Option, Some, [], ap, arith, false, fold, inl, inr, length, refl, subst, sym, true, ℕ, ℤ, ◌*◌, ◌+◌, ◌++◌, ◌==◌, ◌≡◌, ◌≤◌, ◌∙◌, ◌∷◌}
use Rattle.std.specs.List.{AllZip, flat_map, sum_by}
use Rattle.std.proofs.Math.Nat.{mul-le-mul_right}
use Rattle.std.proofs.lemmas.Bool.Decides.{nat_tests}
use Rattle.std.proofs.lemmas.List.{append-nil}
use Rattle.std.proofs.lemmas.List.Elements.{All-head, All-tail}
use Rattle.std.proofs.lemmas.List.Sums.{sum_by-cons}
use Rattle.bw_cells.specs.Known.{known}
use Rattle.bw_code.specs.Encodings.{bits_of, distance}
use Rattle.std.specs.Int.{int_max, int_min}
use Rattle.bw_file.specs.Format.{HasType, SpelledBy, Spells, column_bytes, column_size, least_column_size, spelling}
use Rattle.bw_file.specs.Planes.{frame_of}
use Rattle.bw_file.specs.Planes as planes
use Rattle.bw_file.specs.Cells as cells
use Rattle.bw_file.specs.Cells.{presence_size}
use Rattle.bw_code.specs.Types.{IsTyped}
use Rattle.bw_file.specs.Table.{Header, IsTable, Table}
use Rattle.bw_file.specs.declared.front.FileFront.{FileFront}
use Rattle.bw_file.specs.declared.version.Version.{Version}
use Rattle.bw_file.specs.declared.version.Version.TheVariants.{First, Second}
use Rattle.bw_file.proofs.FirstColumn.{all_fit}
use Rattle.bw_file.proofs.Fronts.{length-spelling, wide}
use Rattle.bw_file.proofs.Joined.{columns-first}
use Rattle.bw_file.proofs.Lengths.{four_of_each, headers_long}

a_bit : (n : ℕ) → 1 ≤ bits_of n
unfolding bits_of
a_bit n = omega arith

some_width : (values : List ℤ) → 1 ≤ (frame_of values).width
some_width [] = omega arith
some_width (x ∷ xs) = a_bit (distance (fold int_max x xs) (fold int_min x xs))

least_one : (version : Version) (n : ℕ) (list : List (Option ℤ)) → length list ≡ n → least_column_size version n ≤ column_size version list
least_one First n list e = omega (arith, ap cells.column_size e)
least_one Second n list e =
    omega (arith, ap presence_size e, ap (λ m. planes.column_size (frame_of (known list)).width m) e, mul-le-mul_right {m = 2} {n = (frame_of (known list)).width + 1} (presence_size n) (omega (arith, some_width (known list))))

pub least_columns : (version : Version) (n : ℕ) (cs : List (List (Option ℤ))) → All (λ c. length c ≡ n) cs → length cs * least_column_size version n ≤ sum_by (column_size version) cs
least_columns version n [] all = omega arith
least_columns version n (c ∷ cs) all =
    omega (arith, least_one version n c (All-head (λ x. length x ≡ n) c cs all), least_columns version n cs (All-tail (λ x. length x ≡ n) c cs all), sum_by-cons (column_size version) c cs)

pub least_length : (version : Version) (t : Table) → IsTable t → 14 + length t.headers * (4 + least_column_size version t.rows) ≤ length (spelling version t)
least_length version t h =
    omega (
      arith,
      length-spelling version t,
      headers_long version t.headers h.names,
      four_of_each (length t.headers) (least_column_size version t.rows),
      least_columns version t.rows t.columns h.long,
      ap (λ n. n * least_column_size version t.rows) (wide t.headers t.columns h.typed),
    )

-- what a front tells of the table that bytes spell
pub record IsTold (front : FileFront) (bytes : List ℕ) (t : Table) : Type 0 where
  pub spelled : SpelledBy front.version bytes t
  pub columns : front.columns ≡ length t.headers
  pub rows : front.rows ≡ t.rows

told_by : (front : FileFront) (bytes : List ℕ) (version : Version) (t : Table) → SpelledBy version bytes t → Some front ≡ Some (record { version = version; columns = length t.headers; rows = t.rows }) → IsTold front bytes t
told_by front bytes version t s e =
    let same : front ≡ record { version = version; columns = length t.headers; rows = t.rows } = cc in
    record { spelled = subst (λ v. SpelledBy v bytes t) (sym (ap (λ (f : FileFront). f.version) same)) s; columns = ap (λ (f : FileFront). f.columns) same; rows = ap (λ (f : FileFront). f.rows) same }

pub is_told : (front : FileFront) (bytes : List ℕ) (t : Table) → ((version : Version) (u : Table) → SpelledBy version bytes u → Some front ≡ Some (record { version = version; columns = length u.headers; rows = u.rows })) → Spells bytes t
    → IsTold front bytes t
is_told front bytes t told (inl s) = told_by front bytes First t s (told First t s)
is_told front bytes t told (inr s) = told_by front bytes Second t s (told Second t s)

no_front : (r : Option FileFront) (f : FileFront) → r ≡ None → r ≡ Some f → ⊥
no_front r f none some = let e : None ≡ Some f = sym none ∙ some in absurd cc

pub not_told : (r : Option FileFront) (bytes : List ℕ) (t : Table) → ((version : Version) (u : Table) → SpelledBy version bytes u → r ≡ Some (record { version = version; columns = length u.headers; rows = u.rows })) → r ≡ None → Spells bytes t → ⊥
not_told r bytes t told none (inl s) = no_front r _ none (told First t s)
not_told r bytes t told none (inr s) = no_front r _ none (told Second t s)

pub spells_by : (version : Version) (bytes : List ℕ) (t : Table) → SpelledBy version bytes t → Spells bytes t
spells_by First bytes t s = inl s
spells_by Second bytes t s = inr s

-- there is nothing after the columns of a table
pub nothing_behind : (version : Version) (bytes rest behind : List ℕ) (t : Table) (hs : List Header) (cs : List (List (Option ℤ))) (n : ℕ) → SpelledBy version bytes t → n ≡ t.rows → hs ≡ t.headers → All (HasType version) hs
    → All (λ c. length c ≡ n) cs → AllZip IsTyped hs cs → rest ≡ flat_map (column_bytes version) t.columns → rest ≡ flat_map (column_bytes version) cs ++ behind → behind ≡ []
nothing_behind version bytes rest behind t hs cs n s rows heads types long typed whole found =
    let typed' : AllZip IsTyped t.headers cs = subst (λ xs. AllZip IsTyped xs cs) heads typed in
    let long' : All (λ c. length c ≡ t.rows) cs = subst (λ m. All (λ c. length c ≡ m) cs) rows long in
    (columns-first version t.rows cs t.columns behind [] (sym (wide t.headers cs typed') ∙ wide t.headers t.columns s.table.typed) long' s.table.long
    (all_fit version t.headers cs s.types typed') (all_fit version t.headers t.columns s.types s.table.typed) (sym found ∙ whole ∙ sym (append-nil (flat_map (column_bytes version) t.columns)))).1

pub no_bytes : (xs : List ℕ) → true ≡ (length xs == 0) → xs ≡ []
no_bytes [] e = refl
no_bytes (x ∷ xs) e = let none : length (x ∷ xs) ≡ 0 = grind (arith, nat_tests) in absurd (omega (arith, none))

pub some_bytes : (xs : List ℕ) → xs ≡ [] → false ≡ (length xs == 0) → ⊥
some_bytes [] e h = absurd cc
some_bytes (x ∷ xs) e h = absurd cc
