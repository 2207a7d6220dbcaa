use Rattle.std.proofs.Common.{length, nat_le, rules, tests}
use Rattle.std.proofs.lemmas.Iterator.{YieldsList-from_slice, YieldsList-from_map_by}
use Rattle.std.proofs.lemmas.Iterator.Consumers.{YieldsList-from_copied, YieldsList-at}
use Rattle.std.proofs.lemmas.Iterator.Search.{find_from_yields_List}
use Rattle.axes.specs.Whole.{multiples, steps}
use Rattle.axes.proofs.Found.{whole_row}
use Rattle.axes.proofs.whole.WholeAxis.keys.Goals as goal

pub returns : goal.returns
returns c =
    let lo = c.args.self.lo in
    let hi = c.args.self.hi in
    whole_row (λ r. multiples r.step r.axis.lo r.axis.hi) lo hi c.args.most c.find.result
    (find_from_yields_List (λ l. nat_le (length l) c.args.most) _ _ c.find.result c.find.ensures.ran
    (YieldsList-from_map_by _ _ (λ s. multiples s lo hi) (YieldsList-at c.map.ensures.source (YieldsList-from_copied (YieldsList-from_slice steps cc))) c.map.ensures.closure (λ x r q k. search (rules, tests)))
    (λ x b q k. search (rules, tests)))
