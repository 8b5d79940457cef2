use Rattle.c_typing.proofs.Rows.{empty_row, least_row, address_row, count_row}
use Rattle.c_typing.proofs.laws.example_answers.Goals as goal

pub returns : goal.returns
returns c = record { empty = empty_row; least = least_row; address = address_row; count = count_row }
