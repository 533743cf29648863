use Rattle.std.proofs.Common.{All, ap, arith, get_or, length, subst, sym, ◌<◌, ◌≡◌, ◌++◌, ◌∙◌}
use Rattle.std.proofs.lemmas.List.{get_or_default}
use Rattle.bw_column.specs.Codes.{IsCoded}
use Rattle.bw_column.specs.Columns.{ColumnView}
use Rattle.bw_table.proofs.Exchanged.{are_exchanged}
use Rattle.bw_table.proofs.Parted.{back_at, both_set, front_at}
use Rattle.bw_table.proofs.exchanging.exchange_columns.Goals as goal

pub returns : goal.returns
returns c =
    let items = c.args.columns.now.items in
    let count = c.args.columns.now.len in
    let all = c.args.columns.now.ok.0 in
    let pair = c.args.pair in
    let k = pair.first in
    let m = pair.second in
    let split = c.split_at_mut-front in
    let front = split.result.0.now in
    let back = split.result.1.now in
    let d = c.index-front-pair-2.result in
    let e = c.index-back-0-2.result in
    let own = get_or front k d in
    let other = get_or back 0 e in
    let x = c.exchange_values.new.self in
    let y = c.exchange_values.new.other in
    let v = c.exchange_values.ensures in
    let parts : items ≡ front ++ back = sym c.deref_mut.ensures.value ∙ split.ensures.value in
    let low : k < length front = omega (arith, split.ensures.front_len, pair.apart) in
    let there : m < length items = omega (arith, c.requires.there, all) in
    let inside : k < length items = omega (arith, there, pair.apart) in
    let some : 0 < length back = omega (arith, split.ensures.back_len, c.requires.there) in
    let own_is : (o : ColumnView) → own ≡ get_or items k o = λ o. sym (front_at items front back count all parts k d low) ∙ get_or_default items k d o inside in
    let other_is : (o : ColumnView) → other ≡ get_or items m o = λ o. sym (back_at items front back count all parts m e split.ensures.front_len) ∙ get_or_default items m e o there in
    let same : other.encoding ≡ own.encoding = ap (λ (o : ColumnView). o.encoding) (other_is d) ∙ c.requires.encoding d ∙ sym (ap (λ (o : ColumnView). o.encoding) (own_is d)) in
    let own_coded : All (IsCoded own.encoding) own.values = subst (λ (o : ColumnView). All (IsCoded o.encoding) o.values) (get_or_default front k c.index-front-pair.result d low) c.encoding-coded.ensures.coded in
    let other_coded : All (IsCoded other.encoding) other.values = subst (λ (o : ColumnView). All (IsCoded o.encoding) o.values) (get_or_default back 0 c.index-back-0.result e some) c.encoding-others_coded.ensures.coded in
    rw (both_set items front back count all parts k m x y low split.ensures.front_len)
    (are_exchanged items c.args.found.now pair x y own other there own_is other_is same own_coded other_coded v.values v.layout v.encoding v.others v.other_layout v.other_encoding)
