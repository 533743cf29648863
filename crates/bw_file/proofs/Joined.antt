-- Parts of a file that follow one another are told apart.
use Rattle.std.proofs.Common.{List, Option, [], add-one, ap, append_assoc, arith, drop, drop-cons, get_or, length, map, refl, sym, take, take-append-drop, ℕ, ℤ, ◌+◌, ◌++◌, ◌<◌, ◌≡◌, ◌∙◌, ◌∷◌}
use Rattle.std.proofs.lemmas.Grind.{flat_map-append}
use Rattle.std.proofs.lemmas.List.{append-nil, get_or-map, length-map, length-take, take_more}
use Rattle.std.proofs.lemmas.List.Elements.{All-head, All-tail, All-take}
use Rattle.std.specs.List.{flat_map, sum_by}
use Rattle.std.proofs.lemmas.List.Sums.{sum_by-append, sum_by-cons}
use Rattle.std.specs.Prelude.{All}
use Rattle.bw_code.specs.declared.kind.Kind.{Kind}
use Rattle.bw_code.specs.declared.kind.Kind.TheVariants.{Dictionary, Offset}
use Rattle.bw_code.specs.declared.kind.Layout.{Layout}
use Rattle.bw_code.specs.declared.kind.Layout.TheVariants.{H, P, S, V}
use Rattle.bw_code.specs.declared.kind.ColumnType.{ColumnType}
use Rattle.bw_code.specs.declared.kind.ColumnType.TheVariants.{BigInt, Integer}
use Rattle.bw_file.specs.Table.{Header}
use Rattle.bw_file.specs.Format.{HasType, column_bytes}
use Rattle.bw_file.specs.Headers.{header_bytes, kind_number, layout_number, type_number}
use Rattle.bw_file.specs.declared.version.Version.{Version}
use Rattle.bw_file.specs.declared.version.Version.TheVariants.{First, Second}
use Rattle.bw_file.proofs.FirstColumn.{Fits, column-first, fronts}

layouts : (a b : Layout) → layout_number a ≡ layout_number b → a ≡ b
layouts P P e = refl
layouts P V e = absurd (omega arith)
layouts P H e = absurd (omega arith)
layouts P S e = absurd (omega arith)
layouts V P e = absurd (omega arith)
layouts V V e = refl
layouts V H e = absurd (omega arith)
layouts V S e = absurd (omega arith)
layouts H P e = absurd (omega arith)
layouts H V e = absurd (omega arith)
layouts H H e = refl
layouts H S e = absurd (omega arith)
layouts S P e = absurd (omega arith)
layouts S V e = absurd (omega arith)
layouts S H e = absurd (omega arith)
layouts S S e = refl

kinds : (a b : Kind) → kind_number a ≡ kind_number b → a ≡ b
kinds Offset Offset e = refl
kinds Offset Dictionary e = absurd (omega arith)
kinds Dictionary Offset e = absurd (omega arith)
kinds Dictionary Dictionary e = refl

types : (a b : ColumnType) → type_number a ≡ type_number b → a ≡ b
types Integer Integer e = refl
types Integer BigInt e = absurd (omega arith)
types BigInt Integer e = absurd (omega arith)
types BigInt BigInt e = refl

abbrev pub header : List ℕ → ColumnType → Layout → Kind → Header
header n t l k = record { name = n; column_type = t; layout = l; kind = k }

same-header : (h k : Header) → h.name ≡ k.name → h.column_type ≡ k.column_type → h.layout ≡ k.layout → h.kind ≡ k.kind → h ≡ k
same-header h k a t b c =
    ap (λ n. header n h.column_type h.layout h.kind) a ∙ ap (λ u. header k.name u h.layout h.kind) t ∙ ap (λ l. header k.name k.column_type l h.kind) b ∙ ap (header k.name k.column_type k.layout) c

-- headers end where the next one begins
pub header-first : (version : Version) (h k : Header) (r s : List ℕ) → HasType version h → HasType version k → header_bytes version h ++ r ≡ header_bytes version k ++ s → (h ≡ k) × (r ≡ s)
header-first First h k r s t u same =
    let long : length h.name ≡ length k.name = cc in
    let rest : (h.name ++ layout_number h.layout ∷ kind_number h.kind ∷ []) ++ r ≡ (k.name ++ layout_number k.layout ∷ kind_number k.kind ∷ []) ++ s = cc in
    let names = fronts h.name k.name (layout_number h.layout ∷ kind_number h.kind ∷ r) (layout_number k.layout ∷ kind_number k.kind ∷ s) long
    (sym (append_assoc h.name (layout_number h.layout ∷ kind_number h.kind ∷ []) r) ∙ rest ∙ append_assoc k.name (layout_number k.layout ∷ kind_number k.kind ∷ []) s) in
    let tail = names.1 in
    let layout : layout_number h.layout ≡ layout_number k.layout = cc in
    let kind : kind_number h.kind ≡ kind_number k.kind = cc in
    let after : r ≡ s = cc in
    (same-header h k names.0 (t ∙ sym u) (layouts h.layout k.layout layout) (kinds h.kind k.kind kind), after)
header-first Second h k r s t u same =
    let long : length h.name ≡ length k.name = cc in
    let rest : (h.name ++ type_number h.column_type ∷ layout_number h.layout ∷ kind_number h.kind ∷ []) ++ r ≡ (k.name ++ type_number k.column_type ∷ layout_number k.layout ∷ kind_number k.kind ∷ []) ++ s = cc in
    let names = fronts h.name k.name (type_number h.column_type ∷ layout_number h.layout ∷ kind_number h.kind ∷ r) (type_number k.column_type ∷ layout_number k.layout ∷ kind_number k.kind ∷ s) long
    (sym (append_assoc h.name (type_number h.column_type ∷ layout_number h.layout ∷ kind_number h.kind ∷ []) r) ∙ rest ∙ append_assoc k.name (type_number k.column_type ∷ layout_number k.layout ∷ kind_number k.kind ∷ []) s) in
    let tail = names.1 in
    let type_is : type_number h.column_type ≡ type_number k.column_type = cc in
    let layout : layout_number h.layout ≡ layout_number k.layout = cc in
    let kind : kind_number h.kind ≡ kind_number k.kind = cc in
    let after : r ≡ s = cc in
    (same-header h k names.0 (types h.column_type k.column_type type_is) (layouts h.layout k.layout layout) (kinds h.kind k.kind kind), after)

pub headers-first : (version : Version) (hs ks : List Header) (r s : List ℕ) → length hs ≡ length ks → All (HasType version) hs → All (HasType version) ks
    → flat_map (header_bytes version) hs ++ r ≡ flat_map (header_bytes version) ks ++ s → (hs ≡ ks) × (r ≡ s)
headers-first version [] [] r s e t u same = (refl, same)
headers-first version [] (k ∷ ks) r s e t u same = absurd (omega arith)
headers-first version (h ∷ hs) [] r s e t u same = absurd (omega arith)
headers-first version (h ∷ hs) (k ∷ ks) r s e t u same =
    let one = header-first version h k (flat_map (header_bytes version) hs ++ r) (flat_map (header_bytes version) ks ++ s) (All-head (HasType version) h hs t) (All-head (HasType version) k ks u)
    (sym (append_assoc (header_bytes version h) (flat_map (header_bytes version) hs) r) ∙ same ∙ append_assoc (header_bytes version k) (flat_map (header_bytes version) ks) s) in
    let more = headers-first version hs ks r s (omega arith) (All-tail (HasType version) h hs t) (All-tail (HasType version) k ks u) one.1 in
    (ap (λ x. x ∷ hs) one.0 ∙ ap (λ xs. k ∷ xs) more.0, more.1)

-- columns end where the next one begins
pub columns-first : (version : Version) (n : ℕ) (cs ds : List (List (Option ℤ))) (r s : List ℕ) → length cs ≡ length ds → All (λ c. length c ≡ n) cs → All (λ c. length c ≡ n) ds
    → All (Fits version) cs → All (Fits version) ds → flat_map (column_bytes version) cs ++ r ≡ flat_map (column_bytes version) ds ++ s → (cs ≡ ds) × (r ≡ s)
columns-first version n [] [] r s e a b f g same = (refl, same)
columns-first version n [] (d ∷ ds) r s e a b f g same = absurd (omega arith)
columns-first version n (c ∷ cs) [] r s e a b f g same = absurd (omega arith)
columns-first version n (c ∷ cs) (d ∷ ds) r s e a b f g same =
    let long : length c ≡ length d = All-head (λ x. length x ≡ n) c cs a ∙ sym (All-head (λ x. length x ≡ n) d ds b) in
    let one = column-first version c d (flat_map (column_bytes version) cs ++ r) (flat_map (column_bytes version) ds ++ s) long (All-head (Fits version) c cs f) (All-head (Fits version) d ds g)
    (sym (append_assoc (column_bytes version c) (flat_map (column_bytes version) cs) r) ∙ same ∙ append_assoc (column_bytes version d) (flat_map (column_bytes version) ds) s) in
    let more = columns-first version n cs ds r s (omega arith) (All-tail (λ x. length x ≡ n) c cs a) (All-tail (λ x. length x ≡ n) d ds b) (All-tail (Fits version) c cs f) (All-tail (Fits version) d ds g) one.1 in
    (ap (λ x. x ∷ cs) one.0 ∙ ap (λ xs. d ∷ xs) more.0, more.1)

-- a list of parts, cut before one of them
cut : {X : Type 0} (f : X → List ℕ) (xs : List X) (i : ℕ) (d : X) → i < length xs → flat_map f xs ≡ flat_map f (take i xs) ++ (f (get_or xs i d) ++ flat_map f (drop (i + 1) xs))
cut f xs i d h =
    let next : drop i xs ≡ get_or xs i d ∷ drop (i + 1) xs = rw (add-one i) (drop-cons xs i d h) in
    ap (flat_map f) (sym (take-append-drop i xs)) ∙ flat_map-append f (take i xs) (drop i xs) ∙ ap (λ ys. flat_map f (take i xs) ++ flat_map f ys) next

abbrev pub blank : Header
blank = header [] Integer P Offset

-- where i headers were read, the next one of those that are spelled stands first in what is left
pub header_next : (version : Version) (hs read : List Header) (tail rest bytes : List ℕ) (i : ℕ) → i < length hs → length read ≡ i → All (HasType version) hs → All (HasType version) read
    → bytes ≡ flat_map (header_bytes version) read ++ rest → bytes ≡ flat_map (header_bytes version) hs ++ tail
    → rest ≡ header_bytes version (get_or hs i blank) ++ (flat_map (header_bytes version) (drop (i + 1) hs) ++ tail)
header_next version hs read tail rest bytes i h long t u so_far whole =
    let f = header_bytes version in
    let one = get_or hs i blank in
    let after = flat_map (header_bytes version) (drop (i + 1) hs) in
    let parts : flat_map (header_bytes version) hs ++ tail ≡ flat_map (header_bytes version) (take i hs) ++ (header_bytes version one ++ (after ++ tail)) =
    ap (λ xs. xs ++ tail) (cut (header_bytes version) hs i blank h) ∙ append_assoc (flat_map (header_bytes version) (take i hs)) (header_bytes version one ++ after) tail
    ∙ ap (λ xs. flat_map (header_bytes version) (take i hs) ++ xs) (append_assoc (header_bytes version one) after tail) in
    (headers-first version read (take i hs) rest (header_bytes version one ++ (after ++ tail)) (omega (arith, length-take i hs)) u (All-take (HasType version) i hs t) (sym so_far ∙ whole ∙ parts)).1

-- where i columns were read, the next one of those that are spelled stands first in what is left
pub column_next : (version : Version) (n i : ℕ) (cs read : List (List (Option ℤ))) (tail rest bytes : List ℕ) → i < length cs → length read ≡ i → All (λ c. length c ≡ n) cs → All (λ c. length c ≡ n) read
    → All (Fits version) cs → All (Fits version) read
    → bytes ≡ flat_map (column_bytes version) read ++ rest → bytes ≡ flat_map (column_bytes version) cs ++ tail
    → rest ≡ column_bytes version (get_or cs i []) ++ (flat_map (column_bytes version) (drop (i + 1) cs) ++ tail)
column_next version n i cs read tail rest bytes h long a b f g so_far whole =
    let one = get_or cs i [] in
    let after = flat_map (column_bytes version) (drop (i + 1) cs) in
    let parts : flat_map (column_bytes version) cs ++ tail ≡ flat_map (column_bytes version) (take i cs) ++ (column_bytes version one ++ (after ++ tail)) =
    ap (λ xs. xs ++ tail) (cut (column_bytes version) cs i [] h) ∙ append_assoc (flat_map (column_bytes version) (take i cs)) (column_bytes version one ++ after) tail
    ∙ ap (λ xs. flat_map (column_bytes version) (take i cs) ++ xs) (append_assoc (column_bytes version one) after tail) in
    (columns-first version n read (take i cs) rest (column_bytes version one ++ (after ++ tail)) (omega (arith, length-take i cs)) b (All-take (λ c. length c ≡ n) i cs a) g (All-take (Fits version) i cs f) (sym so_far ∙ whole ∙ parts)).1

-- one part more
module _ {A B : Type 0} (g : B → A) (xs : List B) (i : ℕ) (x : B) (there : i < length xs) (is : x ≡ get_or xs i x) where
  pub piece_at : (d : A) → get_or (map g xs) i d ≡ g x
  piece_at d = get_or-map g xs i x d there ∙ ap g (sym is)

  pub piece_more : (f : A → List ℕ) → flat_map f (take (i + 1) (map g xs)) ≡ flat_map f (take i (map g xs)) ++ f (g x)
  piece_more f =
      ap (flat_map f) (take_more (map g xs) i (g x) (omega (arith, length-map xs g)) ∙ ap (λ y. take i (map g xs) ++ y ∷ []) (piece_at (g x)))
      ∙ flat_map-append f (take i (map g xs)) (g x ∷ []) ∙ ap (λ ys. flat_map f (take i (map g xs)) ++ ys) (append-nil (f (g x)))

  pub piece_sum : (f : A → ℕ) → sum_by f (take (i + 1) (map g xs)) ≡ sum_by f (take i (map g xs)) + f (g x)
  piece_sum f =
      ap (sum_by f) (take_more (map g xs) i (g x) (omega (arith, length-map xs g)) ∙ ap (λ y. take i (map g xs) ++ y ∷ []) (piece_at (g x)))
      ∙ sum_by-append f (take i (map g xs)) (g x ∷ []) ∙ ap (λ n. sum_by f (take i (map g xs)) + n) (sum_by-cons f (g x) [] ∙ omega arith)
