use Rattle.area.specs.Areas.{corners}
use Rattle.area.specs.Grids.{cell_on}
use Rattle.area.proofs.Written.{Written}
use Rattle.area.proofs.cells.fill.Given as goal

abbrev pub invariant-loop-k : goal.invariant-loop-k
invariant-loop-k g l = Written corners (cell_on (g.P.Parts.cut l.across) (g.P.Parts.cut l.down) l.cols) l.cells l.k
