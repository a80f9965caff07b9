-- The worked columns and refusals, by computation.
-- Assumes nothing.
use mathlib.Core.Path.{◌≡◌, refl}
use Rattle.field.specs.Field.{◌⊕◌, polynomial, times_alpha, times}
use Rattle.field.specs.Tables.{powers_from, power_table, power_at, place_in, logarithm, logarithm_table, logarithm_at}
use Rattle.column.specs.Column.{column, total, first_sum, second_sum, lawful, with_row, without, restored_one, apart, lacking, restored_two, row_of_weight, wrong_row, mended, mendable}
use Rattle.restoring.specs.Rows.{each_column, first_failing}
use Rattle.third.specs.Answer.{length_kept, length_refusal, one_refusal, two_refusal}
use Rattle.third.specs.Worked.{written, made, columns, columns_expected, answers, answers_expected, refusals, refusals_expected}

pub worked : made ≡ written
unfolding ◌⊕◌ polynomial times_alpha times powers_from power_table power_at place_in logarithm logarithm_table logarithm_at column total first_sum second_sum with_row without apart lacking restored_two each_column
worked = refl

pub worked_columns : columns ≡ columns_expected
unfolding ◌⊕◌ polynomial times_alpha times powers_from power_table power_at place_in logarithm logarithm_table logarithm_at column total first_sum second_sum with_row without restored_one apart lacking restored_two row_of_weight wrong_row mended
worked_columns = refl

pub worked_answers : answers ≡ answers_expected
unfolding ◌⊕◌ polynomial times_alpha times powers_from power_table power_at place_in logarithm logarithm_table logarithm_at column total first_sum second_sum lawful row_of_weight wrong_row mendable first_failing length_kept length_refusal
worked_answers = refl

pub worked_refusals : refusals ≡ refusals_expected
unfolding length_kept length_refusal one_refusal two_refusal
worked_refusals = refl
