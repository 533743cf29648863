use Rattle.std.proofs.Common.{All, None, arith, drop, get_or, inl, inr, is_some, length, length-take-le, take, ℕ, ◌+◌, ◌-◌, ◌<◌, ◌≡◌, ◌≤◌, ◌∙◌}
use Rattle.std.specs.Prelude.{◌↔◌}
use Rattle.bw_mask.specs.Masks.{bit_of}
use Rattle.bw_code.specs.Encodings.{IsEncoding}
use Rattle.bw_code.specs.declared.encoding.Encoding.TheVariants as by
use Rattle.bw_dictionary.specs.Merging.{StandsAt}
use Rattle.bw_column.specs.Codes.{IsCoded, codes_for}
use Rattle.bw_column.proofs.Standing.{HasCodeFrom, marked_all, marked_more, run_inside, stand_in}
use Rattle.bw_column.proofs.column.Column.mark_rows.Goals as goal

pub mark_standing-requires-clause-inside : goal.mark_standing-requires-clause-inside
mark_standing-requires-clause-inside c =
    let entries = c.args.entries.now in
    let e = by.Dictionary entries in
    let values = c.args.self.now.values in
    let n = c.rows_before-n.result in
    let at = c.loop-at.at - n in
    let i = c.loop-at.invariant in
    let sound : IsEncoding e = rw c.requires.encoding at c.encoding-sound.ensures.sound in
    let coded : All (IsCoded e) values = rw c.requires.encoding at c.encoding-sound.ensures.coded in
    let up : at + n ≡ c.loop-at.at = omega (arith, c.rows_before-n.ensures.there) in
    let inside : at + n ≤ length values = omega (arith, up, i.at) in
    let long : length (take n c.loop-at.list) ≡ n = length-take-le n c.loop-at.list (omega (arith, c.rows_before-n.ensures.few, c.rows_before-n.array_long)) in
    let run : c.read_codes-present.new.codes ≡ take n (drop at (codes_for e values)) = rw (long, c.requires.encoding) at c.read_codes-present.ensures.codes in
    let bits : (i : ℕ) → bit_of c.read_codes-present.result i ≡ is_some (get_or (take n (drop at values)) i None) = rw long at c.read_codes-present.ensures.present in
    rw i.count (run_inside entries sound values coded at n c.read_codes-present.new.codes c.read_codes-present.result inside run bits)

pub loop-at-init : goal.loop-at-init
loop-at-init c = record {
  at = omega (arith, c.len-at.ensures.count);
  count = c.requires.count;
  first = omega arith;
  before = λ m h. absurd (omega (arith, h));
  marks = λ m. (λ h. absurd (c.requires.none m h), λ h. absurd (omega (arith, h.1, h.4, c.len-at.ensures.count)));
}

pub loop-at-preserved : goal.loop-at-preserved
loop-at-preserved c =
    let entries = c.args.entries.now in
    let e = by.Dictionary entries in
    let values = c.args.self.now.values in
    let n = c.rows_before-n.result in
    let at = c.loop-at.at - n in
    let i = c.loop-at.invariant in
    let sound : IsEncoding e = rw c.requires.encoding at c.encoding-sound.ensures.sound in
    let coded : All (IsCoded e) values = rw c.requires.encoding at c.encoding-sound.ensures.coded in
    let up : at + n ≡ c.loop-at.at = omega (arith, c.rows_before-n.ensures.there) in
    let inside : at + n ≤ length values = omega (arith, up, i.at) in
    let long : length (take n c.loop-at.list) ≡ n = length-take-le n c.loop-at.list (omega (arith, c.rows_before-n.ensures.few, c.rows_before-n.array_long)) in
    let run : c.read_codes-present.new.codes ≡ take n (drop at (codes_for e values)) = rw (long, c.requires.encoding) at c.read_codes-present.ensures.codes in
    let bits : (i : ℕ) → bit_of c.read_codes-present.result i ≡ is_some (get_or (take n (drop at values)) i None) = rw long at c.read_codes-present.ensures.present in
    let more = marked_more e sound values coded at n c.read_codes-present.new.codes c.read_codes-present.result inside run bits c.loop-at.at up in
    record {
      at = omega (arith, i.at);
      count = c.mark_standing.ensures.count ∙ i.count;
      first = omega (arith, c.first_unmarked-first.ensures.inside, c.mark_standing.ensures.count, i.count);
      before = c.first_unmarked-first.ensures.marked;
      marks = λ m. (
        λ h. (more m).1 (elim ((c.mark_standing.ensures.marks m).0 h) [
          | inl was ↦ inl ((i.marks m).0 was)
          | inr new ↦ inr new
        ]),
        λ h. (c.mark_standing.ensures.marks m).1 (elim ((more m).0 h) [
          | inl was ↦ inl ((i.marks m).1 was)
          | inr new ↦ inr new
        ]),
      );
    }

pub returns-clause-stands : goal.returns-clause-stands
returns-clause-stands c =
    let entries = c.args.entries.now in
    let e = by.Dictionary entries in
    let values = c.args.self.now.values in
    let i = c.loop-at.invariant in
    let sound : IsEncoding e = rw c.requires.encoding at c.encoding-sound.ensures.sound in
    let coded : All (IsCoded e) values = rw c.requires.encoding at c.encoding-sound.ensures.coded in
    let all : c.loop-at.at ≡ 0 = omega (arith, c.loop-at-test.false) in
    let marks : (m : ℕ) → (StandsAt c.loop-at.stands m ↔ HasCodeFrom e values 0 m) = rw all at i.marks in
    stand_in entries sound values coded c.loop-at.stands marks

pub returns-then-first-entries-clause-stands : goal.returns-then-first-entries-clause-stands
returns-then-first-entries-clause-stands c =
    let entries = c.args.entries.now in
    let e = by.Dictionary entries in
    let values = c.args.self.now.values in
    let n = c.rows_before-n.result in
    let at = c.loop-at.at - n in
    let i = c.loop-at.invariant in
    let new = c.mark_standing.new.stands in
    let sound : IsEncoding e = rw c.requires.encoding at c.encoding-sound.ensures.sound in
    let coded : All (IsCoded e) values = rw c.requires.encoding at c.encoding-sound.ensures.coded in
    let up : at + n ≡ c.loop-at.at = omega (arith, c.rows_before-n.ensures.there) in
    let inside : at + n ≤ length values = omega (arith, up, i.at) in
    let long : length (take n c.loop-at.list) ≡ n = length-take-le n c.loop-at.list (omega (arith, c.rows_before-n.ensures.few, c.rows_before-n.array_long)) in
    let run : c.read_codes-present.new.codes ≡ take n (drop at (codes_for e values)) = rw (long, c.requires.encoding) at c.read_codes-present.ensures.codes in
    let bits : (i : ℕ) → bit_of c.read_codes-present.result i ≡ is_some (get_or (take n (drop at values)) i None) = rw long at c.read_codes-present.ensures.present in
    let more = marked_more e sound values coded at n c.read_codes-present.new.codes c.read_codes-present.result inside run bits c.loop-at.at up in
    let marks : (m : ℕ) → (StandsAt new m ↔ HasCodeFrom e values at m) = λ m. (
      λ h. (more m).1 (elim ((c.mark_standing.ensures.marks m).0 h) [
        | inl was ↦ inl ((i.marks m).0 was)
        | inr here ↦ inr here
      ]),
      λ h. (c.mark_standing.ensures.marks m).1 (elim ((more m).0 h) [
        | inl was ↦ inl ((i.marks m).1 was)
        | inr here ↦ inr here
      ]),
    ) in
    let all : (m : ℕ) → m < length entries → StandsAt new m = λ m h. c.first_unmarked-first.ensures.marked m (omega (arith, h, c.if-first-entries.true)) in
    stand_in entries sound values coded new (marked_all entries sound values coded new at marks all)
