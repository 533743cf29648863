use Rattle.std.proofs.Common.{◌≡◌, ◌<◌, ◌++◌, arith, get_or, length, sym, ◌∙◌}
use Rattle.std.proofs.lemmas.List.{get_or_default}
use Rattle.bw_column.specs.Columns.{ColumnView}
use Rattle.bw_table.proofs.Parted.{back_at, back_set, front_at, front_set}
use Rattle.bw_table.proofs.Written.{copied_written}
use Rattle.bw_table.proofs.setting.copy_column.Goals as goal

pub returns-then-k-from : goal.returns-then-k-from
returns-then-k-from c =
    let items = c.args.columns.now.items in
    let count = c.args.columns.now.len in
    let all = c.args.columns.now.ok.0 in
    let k = c.args.k in
    let from = c.args.from in
    let split = c.split_at_mut-front in
    let front = split.result.0.now in
    let back = split.result.1.now in
    let d = c.index-front-k.result in
    let e = c.index-back-0.result in
    let x = c.copy_values.new.self in
    let parts : items ≡ front ++ back = sym c.deref_mut.ensures.value ∙ split.ensures.value in
    let low : k < length front = omega (arith, split.ensures.front_len, c.if-k-from.true) in
    let inside : k < length items = omega (arith, c.requires.named, all) in
    let there : from < length items = omega (arith, c.requires.there, all) in
    let own_is : (o : ColumnView) → get_or front k d ≡ get_or items k o = λ o. sym (front_at items front back count all parts k d low) ∙ get_or_default items k d o inside in
    let other_is : (o : ColumnView) → get_or back 0 e ≡ get_or items from o = λ o. sym (back_at items front back count all parts from e split.ensures.front_len) ∙ get_or_default items from e o there in
    let v = c.copy_values.ensures in
    record { written = rw (front_set items front back count all parts k x low) (copied_written items c.args.found.now k from x (get_or front k d) (get_or back 0 e) inside there own_is other_is c.requires.can v.values v.layout v.encoding) }

pub returns-else-k-from : goal.returns-else-k-from
returns-else-k-from c =
    let items = c.args.columns.now.items in
    let count = c.args.columns.now.len in
    let all = c.args.columns.now.ok.0 in
    let k = c.args.k in
    let from = c.args.from in
    let split = c.split_at_mut-front-else-k-from in
    let front = split.result.0.now in
    let back = split.result.1.now in
    let d = c.index-back-0-else-k-from.result in
    let e = c.index-front-from.result in
    let x = c.copy_values-else-k-from.new.self in
    let parts : items ≡ front ++ back = sym c.deref_mut-else-k-from.ensures.value ∙ split.ensures.value in
    let low : from < length front = omega (arith, split.ensures.front_len, c.if-k-from.false, c.requires.apart) in
    let inside : k < length items = omega (arith, c.requires.named, all) in
    let there : from < length items = omega (arith, c.requires.there, all) in
    let own_is : (o : ColumnView) → get_or back 0 d ≡ get_or items k o = λ o. sym (back_at items front back count all parts k d split.ensures.front_len) ∙ get_or_default items k d o inside in
    let other_is : (o : ColumnView) → get_or front from e ≡ get_or items from o = λ o. sym (front_at items front back count all parts from e low) ∙ get_or_default items from e o there in
    let v = c.copy_values-else-k-from.ensures in
    record { written = rw (back_set items front back count all parts k x split.ensures.front_len) (copied_written items c.args.found.now k from x (get_or back 0 d) (get_or front from e) inside there own_is other_is c.requires.can v.values v.layout v.encoding) }
