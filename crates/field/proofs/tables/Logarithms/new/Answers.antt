-- The entries of `Logarithms::new` are the logarithms, by computation. Assumes nothing.
use mathlib.Core.Path.{refl}
use Rattle.field.specs.Tables.{powers_from, power_table, place_in, logarithm, logarithm_table}
use Rattle.field.specs.Field.{◌⊕◌, times_alpha, polynomial}
use Rattle.field.proofs.tables.Logarithms.new.Goals as goal

pub invariant_of-result : goal.invariant_of-result
unfolding logarithm_table logarithm place_in power_table powers_from times_alpha ◌⊕◌ polynomial
invariant_of-result c = record { by_rule = refl }
