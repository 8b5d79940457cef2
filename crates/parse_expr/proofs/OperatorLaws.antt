-- What a mark is names the mark.
use Rattle.std.proofs.Common.{◌≡◌, ℕ, ◌≤◌, refl, arith}
use Rattle.c_tree.specs.declared.operators.UnaryOp.{UnaryOp}
use Rattle.c_tree.specs.declared.operators.UnaryOp.TheVariants as unary
use Rattle.c_tree.specs.declared.operators.BinaryOp.{BinaryOp}
use Rattle.c_tree.specs.declared.operators.BinaryOp.TheVariants as binary
use Rattle.c_tree.specs.declared.operators.AssignOp.{AssignOp}
use Rattle.c_tree.specs.declared.operators.AssignOp.TheVariants as assign
use Rattle.c_tree.specs.declared.operators.Selector.{Selector}
use Rattle.c_tree.specs.declared.operators.Selector.TheVariants as selector
use Rattle.c_lex.specs.declared.marks.Mark.{Mark}
use Rattle.c_lex.specs.declared.marks.Mark.TheVariants as m
use Rattle.parse_expr.specs.declared.operators.Follower.TheVariants as follower
use Rattle.parse_expr.specs.declared.operators.Opener.TheVariants as opener
use Rattle.parse_expr.specs.Operators.{binary_mark, level, assign_mark, prefix_mark, selector_mark, follower_of, opener_of, IsFollower, IsOpener}

pub binary_follows : (op : BinaryOp) → follower_of (binary_mark op) ≡ follower.Binary op
binary_follows binary.Or = refl
binary_follows binary.And = refl
binary_follows binary.BitOr = refl
binary_follows binary.BitXor = refl
binary_follows binary.BitAnd = refl
binary_follows binary.Equal = refl
binary_follows binary.NotEqual = refl
binary_follows binary.Less = refl
binary_follows binary.LessEqual = refl
binary_follows binary.Greater = refl
binary_follows binary.GreaterEqual = refl
binary_follows binary.ShiftLeft = refl
binary_follows binary.ShiftRight = refl
binary_follows binary.Add = refl
binary_follows binary.Subtract = refl
binary_follows binary.Multiply = refl
binary_follows binary.Divide = refl
binary_follows binary.Remainder = refl

pub assign_follows : (op : AssignOp) → follower_of (assign_mark op) ≡ follower.Assign op
assign_follows assign.Set = refl
assign_follows assign.Add = refl
assign_follows assign.Subtract = refl
assign_follows assign.Multiply = refl
assign_follows assign.Divide = refl
assign_follows assign.Remainder = refl
assign_follows assign.BitAnd = refl
assign_follows assign.BitOr = refl
assign_follows assign.BitXor = refl
assign_follows assign.ShiftLeft = refl
assign_follows assign.ShiftRight = refl

pub selector_follows : (k : Selector) → follower_of (selector_mark k) ≡ follower.Select k
selector_follows selector.Dot = refl
selector_follows selector.Arrow = refl

pub prefix_opens : (op : UnaryOp) → opener_of (prefix_mark op) ≡ opener.Prefix op
prefix_opens unary.Increment = refl
prefix_opens unary.Decrement = refl
prefix_opens unary.Negate = refl
prefix_opens unary.Plus = refl
prefix_opens unary.Complement = refl
prefix_opens unary.Not = refl
prefix_opens unary.Address = refl
prefix_opens unary.Indirect = refl

pub level_positive : (op : BinaryOp) → 1 ≤ level op
level_positive binary.Or = omega arith
level_positive binary.And = omega arith
level_positive binary.BitOr = omega arith
level_positive binary.BitXor = omega arith
level_positive binary.BitAnd = omega arith
level_positive binary.Equal = omega arith
level_positive binary.NotEqual = omega arith
level_positive binary.Less = omega arith
level_positive binary.LessEqual = omega arith
level_positive binary.Greater = omega arith
level_positive binary.GreaterEqual = omega arith
level_positive binary.ShiftLeft = omega arith
level_positive binary.ShiftRight = omega arith
level_positive binary.Add = omega arith
level_positive binary.Subtract = omega arith
level_positive binary.Multiply = omega arith
level_positive binary.Divide = omega arith
level_positive binary.Remainder = omega arith

pub level_most : (op : BinaryOp) → level op ≤ 10
level_most binary.Or = omega arith
level_most binary.And = omega arith
level_most binary.BitOr = omega arith
level_most binary.BitXor = omega arith
level_most binary.BitAnd = omega arith
level_most binary.Equal = omega arith
level_most binary.NotEqual = omega arith
level_most binary.Less = omega arith
level_most binary.LessEqual = omega arith
level_most binary.Greater = omega arith
level_most binary.GreaterEqual = omega arith
level_most binary.ShiftLeft = omega arith
level_most binary.ShiftRight = omega arith
level_most binary.Add = omega arith
level_most binary.Subtract = omega arith
level_most binary.Multiply = omega arith
level_most binary.Divide = omega arith
level_most binary.Remainder = omega arith

pub follower_is : (k : Mark) → IsFollower k (follower_of k)
follower_is m.Star = refl
follower_is m.OpenParen = refl
follower_is m.CloseParen = refl
follower_is m.Semicolon = refl
follower_is m.OpenBrace = tt
follower_is m.CloseBrace = tt
follower_is m.Equal = refl
follower_is m.Comma = refl
follower_is m.Minus = refl
follower_is m.OpenBracket = refl
follower_is m.CloseBracket = refl
follower_is m.Ellipsis = tt
follower_is m.Ampersand = refl
follower_is m.Dot = refl
follower_is m.PlusEqual = refl
follower_is m.MinusEqual = refl
follower_is m.StarEqual = refl
follower_is m.SlashEqual = refl
follower_is m.PercentEqual = refl
follower_is m.AmpersandEqual = refl
follower_is m.BarEqual = refl
follower_is m.CaretEqual = refl
follower_is m.ShiftLeftEqual = refl
follower_is m.ShiftRightEqual = refl
follower_is m.Question = refl
follower_is m.Colon = refl
follower_is m.BarBar = refl
follower_is m.AmpersandAmpersand = refl
follower_is m.Bar = refl
follower_is m.Caret = refl
follower_is m.EqualEqual = refl
follower_is m.NotEqual = refl
follower_is m.Less = refl
follower_is m.LessEqual = refl
follower_is m.Greater = refl
follower_is m.GreaterEqual = refl
follower_is m.ShiftLeft = refl
follower_is m.ShiftRight = refl
follower_is m.Plus = refl
follower_is m.Slash = refl
follower_is m.Percent = refl
follower_is m.PlusPlus = refl
follower_is m.MinusMinus = refl
follower_is m.Tilde = tt
follower_is m.Exclamation = tt
follower_is m.Arrow = refl

pub opener_is : (k : Mark) → IsOpener k (opener_of k)
opener_is m.Star = refl
opener_is m.OpenParen = refl
opener_is m.CloseParen = refl
opener_is m.Semicolon = tt
opener_is m.OpenBrace = tt
opener_is m.CloseBrace = tt
opener_is m.Equal = tt
opener_is m.Comma = tt
opener_is m.Minus = refl
opener_is m.OpenBracket = tt
opener_is m.CloseBracket = tt
opener_is m.Ellipsis = tt
opener_is m.Ampersand = refl
opener_is m.Dot = tt
opener_is m.PlusEqual = tt
opener_is m.MinusEqual = tt
opener_is m.StarEqual = tt
opener_is m.SlashEqual = tt
opener_is m.PercentEqual = tt
opener_is m.AmpersandEqual = tt
opener_is m.BarEqual = tt
opener_is m.CaretEqual = tt
opener_is m.ShiftLeftEqual = tt
opener_is m.ShiftRightEqual = tt
opener_is m.Question = tt
opener_is m.Colon = tt
opener_is m.BarBar = tt
opener_is m.AmpersandAmpersand = tt
opener_is m.Bar = tt
opener_is m.Caret = tt
opener_is m.EqualEqual = tt
opener_is m.NotEqual = tt
opener_is m.Less = tt
opener_is m.LessEqual = tt
opener_is m.Greater = tt
opener_is m.GreaterEqual = tt
opener_is m.ShiftLeft = tt
opener_is m.ShiftRight = tt
opener_is m.Plus = refl
opener_is m.Slash = tt
opener_is m.Percent = tt
opener_is m.PlusPlus = refl
opener_is m.MinusMinus = refl
opener_is m.Tilde = refl
opener_is m.Exclamation = refl
opener_is m.Arrow = tt
