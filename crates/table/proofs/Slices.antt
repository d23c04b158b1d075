-- A table that keeps its slices over two calls keeps them over both.
use mathlib.Core.Path.{◌∙◌}
use Rattle.table.specs.declared.TableMut.{TableMut}
use Rattle.table.specs.Handed.{SameSlices}

pub same_twice : (t u v : TableMut) → SameSlices t u → SameSlices u v → SameSlices t v
same_twice t u v a b = (b.0 ∙ a.0, b.1 ∙ a.1, b.2 ∙ a.2)
