use Rattle.std.proofs.Common.{◌+◌, length, nat_le, rules, tests, arith}
use Rattle.std.proofs.lemmas.Iterator.{YieldsList-from_range, YieldsList-from_map_by}
use Rattle.std.proofs.lemmas.Iterator.Search.{find_from_yields_List}
use Rattle.axes.specs.Stations.{centres}
use Rattle.axes.proofs.Found.{station_row}
use Rattle.axes.proofs.stations.StationAxis.keys.Goals as goal

pub returns : goal.returns
returns c =
    let n = c.args.self.n in
    let rows = YieldsList-from_map_by _ (λ r. centres r.axis.n r.step) (centres n) (YieldsList-from_range 1 (n + 1) n c.map.ensures.source (omega arith)) c.map.ensures.closure (λ x r q k. search (rules, tests)) in
    station_row (λ r. centres r.axis.n r.step) n c.args.most c.find.result (find_from_yields_List (λ l. nat_le (length l) c.args.most) _ _ c.find.result c.find.ensures.ran rows (λ x b q k. search (rules, tests)))
