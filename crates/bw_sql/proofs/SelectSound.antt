-- What follows SELECT, where it is read, is in the grammar.
use Rattle.std.proofs.Common.{◌≡◌, ◌∙◌, ℕ, List, [], ◌∷◌, Some, None, ap, subst, sym}
use Rattle.bw_sql.specs.declared.keyword.Keyword.TheVariants as k
use Rattle.bw_sql.specs.declared.terminal.Terminal.{Terminal}
use Rattle.bw_sql.specs.declared.terminal.Terminal.TheVariants as t
use Rattle.bw_sql.specs.Tree.{SelectTree}
use Rattle.bw_sql.specs.Grammar.{GroupPart, ItemsPart, NamePart, SelectPart, WherePart, asks, group_by, name, no_condition, no_groups, where_condition}
use Rattle.bw_sql.specs.Reading.{after_by, after_from, condition_at, filter_at, grouping_at, items_at, name_at, select_at}
use Rattle.bw_sql.proofs.ConditionsSound.{condition_sound}
use Rattle.bw_sql.proofs.ItemsSound.{items_sound}
use Rattle.bw_sql.proofs.ListsSound.{IsSound, after_from-is, answers_once, bound, mapped, moved, name_is, name_sound}

filter_sound : (n : ℕ) → IsSound WherePart (filter_at n)
unfolding filter_at
filter_sound n (t.Keyword k.Where ∷ ts) filter rest h =
    mapped Some WherePart (t.Keyword k.Where ∷ ts) (condition_at n ts) filter rest h (λ c reads. where_condition (condition_sound n ts c rest reads))
filter_sound n ts filter rest h = moved WherePart ts None filter ts rest no_condition h

-- a keyword that was taken stood there
after_by-is : (ts mid : List Terminal) → after_by ts ≡ Some mid → ts ≡ t.Keyword k.By ∷ mid
after_by-is (t.Keyword k.By ∷ ts) mid h = cc
after_by-is _ mid h = cc

grouped : (ts : List Terminal) (word : List ℕ) (rest : List Terminal) → NamePart ts word rest → GroupPart (t.Keyword k.Group ∷ t.Keyword k.By ∷ ts) (Some word) rest
grouped ts word rest name = group_by

grouping_sound : IsSound GroupPart grouping_at
unfolding grouping_at
grouping_sound (t.Keyword k.Group ∷ ts) grouping rest h =
    let a = bound (after_by ts) _ (grouping, rest) h in
    subst (λ l. GroupPart (t.Keyword k.Group ∷ l) grouping rest) (sym (after_by-is ts a.0 a.1))
    (mapped Some (λ us g rest. GroupPart (t.Keyword k.Group ∷ t.Keyword k.By ∷ us) g rest) a.0 (name_at a.0) grouping rest a.2 (λ word reads. grouped a.0 word rest (name_sound a.0 word rest reads)))
grouping_sound ts grouping rest h = moved GroupPart ts None grouping ts rest no_groups h

pub select_sound : (n : ℕ) (ts : List Terminal) → (asked : SelectTree) (rest : List Terminal) → select_at n ts ≡ Some (asked, rest) → rest ≡ [] → SelectPart ts asked
unfolding select_at
select_sound n ts asked rest h nothing =
    let a = bound (items_at n ts) _ (asked, rest) h in
    let b = bound (after_from a.0.1) _ (asked, rest) a.2 in
    let c = bound (name_at b.0) _ (asked, rest) b.2 in
    let d = bound (filter_at n c.0.1) _ (asked, rest) c.2 in
    let e = bound (grouping_at d.0.1) _ (asked, rest) d.2 in
    let f = answers_once (record { items = a.0.0; table = c.0.0; condition = d.0.0; grouping = e.0.0 }) asked e.0.1 rest e.2 in
    let from = after_from-is a.0.1 b.0 b.1 ∙ ap (λ l. t.Keyword k.From ∷ l) (name_is b.0 c.0.0 c.0.1 (name_sound b.0 c.0.0 c.0.1 c.1)) in
    let groups = subst (GroupPart d.0.1 e.0.0) (f.1 ∙ nothing) (grouping_sound d.0.1 e.0.0 e.0.1 e.1) in
    subst (SelectPart ts) f.0 (asks (subst (ItemsPart ts a.0.0) from (items_sound n ts a.0.0 a.0.1 a.1)) (filter_sound n c.0.1 d.0.0 d.0.1 d.1) groups)
