-- The table that the code reads is the definition's, by one test that antt computes at each of its entries.
use mathlib.Core.Path.{refl}
use Rattle.sise_util.specs.Classes.{class_of, class_number, classes_from, class_table}
use Rattle.sise_util.proofs.classes.table.Goals as goal

pub returns : goal.returns
unfolding class_table classes_from class_number class_of
returns c = refl
