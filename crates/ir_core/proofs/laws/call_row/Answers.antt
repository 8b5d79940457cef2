use Rattle.std.proofs.Common.{refl}
use Rattle.hx_words.specs.LittleEndian.{number_of, bytes_of}
use Rattle.ir_core.specs.Integers.{low_bits, wrapped}
use Rattle.ir_core.specs.Cells.{number_in, word_in, cells_from, with_cells, fitted}
use Rattle.ir_core.specs.Worlds.{with_slot, same_signature}
use Rattle.ir_core.specs.Access.{from_place, to_place, word_is_zero, same_word, sum_of_words, is_zero_in, binary_of}
use Rattle.ir_core.specs.Calls.{frame_of, replied, entered, served, adjusted}
use Rattle.ir_core.proofs.laws.call_row.Goals as goal

pub returns-clause-end : goal.returns-clause-end
unfolding number_of bytes_of low_bits wrapped number_in word_in cells_from with_cells fitted with_slot same_signature from_place to_place word_is_zero same_word sum_of_words is_zero_in binary_of frame_of replied entered served adjusted
returns-clause-end c = refl

pub returns-clause-ticks : goal.returns-clause-ticks
unfolding number_of bytes_of low_bits wrapped number_in word_in cells_from with_cells fitted with_slot same_signature from_place to_place word_is_zero same_word sum_of_words is_zero_in binary_of frame_of replied entered served adjusted
returns-clause-ticks c = refl

pub returns-clause-works : goal.returns-clause-works
unfolding number_of bytes_of low_bits wrapped number_in word_in cells_from with_cells fitted with_slot same_signature from_place to_place word_is_zero same_word sum_of_words is_zero_in binary_of frame_of replied entered served adjusted
returns-clause-works c = refl

pub returns-clause-crossings : goal.returns-clause-crossings
unfolding number_of bytes_of low_bits wrapped number_in word_in cells_from with_cells fitted with_slot same_signature from_place to_place word_is_zero same_word sum_of_words is_zero_in binary_of frame_of replied entered served adjusted
returns-clause-crossings c = refl
