use Rattle.std.proofs.Common.{None, ap, arith, drop, get_or, is_some, length, length-take, replicate, take, ℕ, ◌++◌, ◌∙◌, ◌≡◌, ◌≤◌}
use Rattle.std.specs.List.{All}
use Rattle.std.proofs.lemmas.List.{length-replicate}
use Rattle.bw_mask.specs.Masks.{bit_of}
use Rattle.bw_code.specs.Encodings.{IsEncoding}
use Rattle.bw_column.specs.Codes.{IsCoded, codes_for}
use Rattle.bw_column.specs.Copies.{masked}
use Rattle.bw_column.specs.Values.{IsNullOrHeld}
use Rattle.bw_column.proofs.Held.{all_storable}
use Rattle.bw_column.proofs.Masked.{all_masked, masked_rows}
use Rattle.bw_column.proofs.Pieces.{all_here}
use Rattle.bw_column.proofs.column.Column.extend_masked_run.Goals as goal

-- how many codes there is room for
long : (n : ℕ) → n ≤ 64 → length (take n (replicate {A = ℕ} 64 0)) ≡ n
long n few = omega (arith, few, length-take n (replicate {A = ℕ} 64 0), length-replicate {A = ℕ} 64 0)

pub extend_rows-requires-clause-rows : goal.extend_rows-requires-clause-rows
extend_rows-requires-clause-rows c =
    let e = c.args.self.now.encoding in
    let places = c.args.places.now in
    let values = c.args.other.now.values in
    let at = c.args.at in
    let n = c.args.n in
    let sound : IsEncoding e = rw c.requires.encoding c.encoding-sound.ensures.sound in
    let coded : All (IsCoded e) values = rw c.requires.encoding c.encoding-sound.ensures.coded in
    let are : c.read_codes-present.new.codes ≡ take n (drop at (codes_for e values)) = rw c.requires.encoding (c.read_codes-present.ensures.codes ∙ ap (λ k. take k (drop at (codes_for c.args.other.now.encoding values))) (long n c.requires.block)) in
    let there : (j : ℕ) → bit_of c.read_codes-present.result j ≡ is_some (get_or (take n (drop at values)) j None) = λ j. c.read_codes-present.ensures.present j ∙ ap (λ k. is_some (get_or (take k (drop at values)) j None)) (long n c.requires.block) in
    let rows = masked_rows e sound places values at n c.read_codes-present.result c.bits.result c.keep_rows-kept.result c.read_codes-present.new.codes c.keep_rows-kept.new.codes c.requires.inside coded (all_storable c.args.self.now.layout values c.requires.held) are there c.bits.ensures c.keep_rows-kept.ensures.kept c.keep_rows-kept.ensures.count c.keep_rows-kept.ensures.each in
    rows.0

pub extend_rows-requires-clause-held : goal.extend_rows-requires-clause-held
extend_rows-requires-clause-held c =
    let e = c.args.self.now.encoding in
    let places = c.args.places.now in
    let values = c.args.other.now.values in
    let at = c.args.at in
    let n = c.args.n in
    let sound : IsEncoding e = rw c.requires.encoding c.encoding-sound.ensures.sound in
    let coded : All (IsCoded e) values = rw c.requires.encoding c.encoding-sound.ensures.coded in
    let are : c.read_codes-present.new.codes ≡ take n (drop at (codes_for e values)) = rw c.requires.encoding (c.read_codes-present.ensures.codes ∙ ap (λ k. take k (drop at (codes_for c.args.other.now.encoding values))) (long n c.requires.block)) in
    let there : (j : ℕ) → bit_of c.read_codes-present.result j ≡ is_some (get_or (take n (drop at values)) j None) = λ j. c.read_codes-present.ensures.present j ∙ ap (λ k. is_some (get_or (take k (drop at values)) j None)) (long n c.requires.block) in
    let rows = masked_rows e sound places values at n c.read_codes-present.result c.bits.result c.keep_rows-kept.result c.read_codes-present.new.codes c.keep_rows-kept.new.codes c.requires.inside coded (all_storable c.args.self.now.layout values c.requires.held) are there c.bits.ensures c.keep_rows-kept.ensures.kept c.keep_rows-kept.ensures.count c.keep_rows-kept.ensures.each in
    let here : All (IsNullOrHeld c.args.self.now.layout) (take n (drop at (masked places values))) = all_here (IsNullOrHeld c.args.self.now.layout) (masked places values) at n (all_masked (IsNullOrHeld c.args.self.now.layout) places values tt c.requires.held) in
    rw rows.1 here

pub returns-clause-values : goal.returns-clause-values
returns-clause-values c =
    let e = c.args.self.now.encoding in
    let places = c.args.places.now in
    let values = c.args.other.now.values in
    let at = c.args.at in
    let n = c.args.n in
    let sound : IsEncoding e = rw c.requires.encoding c.encoding-sound.ensures.sound in
    let coded : All (IsCoded e) values = rw c.requires.encoding c.encoding-sound.ensures.coded in
    let are : c.read_codes-present.new.codes ≡ take n (drop at (codes_for e values)) = rw c.requires.encoding (c.read_codes-present.ensures.codes ∙ ap (λ k. take k (drop at (codes_for c.args.other.now.encoding values))) (long n c.requires.block)) in
    let there : (j : ℕ) → bit_of c.read_codes-present.result j ≡ is_some (get_or (take n (drop at values)) j None) = λ j. c.read_codes-present.ensures.present j ∙ ap (λ k. is_some (get_or (take k (drop at values)) j None)) (long n c.requires.block) in
    let rows = masked_rows e sound places values at n c.read_codes-present.result c.bits.result c.keep_rows-kept.result c.read_codes-present.new.codes c.keep_rows-kept.new.codes c.requires.inside coded (all_storable c.args.self.now.layout values c.requires.held) are there c.bits.ensures c.keep_rows-kept.ensures.kept c.keep_rows-kept.ensures.count c.keep_rows-kept.ensures.each in
    c.extend_rows.ensures.values ∙ ap (λ xs. c.args.self.now.values ++ xs) rows.1
