-- The marks of operators, and what a mark is behind an operand and where one begins.
use Rattle.std.specs.Prelude.{◌≡◌, ℕ}
use Rattle.c_tree.specs.declared.operators.UnaryOp.{UnaryOp}
use Rattle.c_tree.specs.declared.operators.UnaryOp.TheVariants as unary
use Rattle.c_tree.specs.declared.operators.BinaryOp.{BinaryOp}
use Rattle.c_tree.specs.declared.operators.BinaryOp.TheVariants as binary
use Rattle.c_tree.specs.declared.operators.AssignOp.{AssignOp}
use Rattle.c_tree.specs.declared.operators.AssignOp.TheVariants as assign
use Rattle.c_tree.specs.declared.operators.Selector.{Selector}
use Rattle.c_tree.specs.declared.operators.Selector.TheVariants as selector
use Rattle.c_lex.specs.declared.marks.Mark.{Mark}
use Rattle.c_lex.specs.declared.marks.Mark.TheVariants as m
use Rattle.parse_expr.specs.declared.operators.Follower.{Follower}
use Rattle.parse_expr.specs.declared.operators.Follower.TheVariants as follower
use Rattle.parse_expr.specs.declared.operators.Opener.{Opener}
use Rattle.parse_expr.specs.declared.operators.Opener.TheVariants as opener

-- the marks between two operands
abbrev pub binary_mark : BinaryOp → Mark
binary_mark binary.Or = m.BarBar
binary_mark binary.And = m.AmpersandAmpersand
binary_mark binary.BitOr = m.Bar
binary_mark binary.BitXor = m.Caret
binary_mark binary.BitAnd = m.Ampersand
binary_mark binary.Equal = m.EqualEqual
binary_mark binary.NotEqual = m.NotEqual
binary_mark binary.Less = m.Less
binary_mark binary.LessEqual = m.LessEqual
binary_mark binary.Greater = m.Greater
binary_mark binary.GreaterEqual = m.GreaterEqual
binary_mark binary.ShiftLeft = m.ShiftLeft
binary_mark binary.ShiftRight = m.ShiftRight
binary_mark binary.Add = m.Plus
binary_mark binary.Subtract = m.Minus
binary_mark binary.Multiply = m.Star
binary_mark binary.Divide = m.Slash
binary_mark binary.Remainder = m.Percent

-- how tightly they bind: 1 is the loosest
abbrev pub level : BinaryOp → ℕ
level binary.Or = 1
level binary.And = 2
level binary.BitOr = 3
level binary.BitXor = 4
level binary.BitAnd = 5
level binary.Equal = 6
level binary.NotEqual = 6
level binary.Less = 7
level binary.LessEqual = 7
level binary.Greater = 7
level binary.GreaterEqual = 7
level binary.ShiftLeft = 8
level binary.ShiftRight = 8
level binary.Add = 9
level binary.Subtract = 9
level binary.Multiply = 10
level binary.Divide = 10
level binary.Remainder = 10

abbrev pub assign_mark : AssignOp → Mark
assign_mark assign.Set = m.Equal
assign_mark assign.Add = m.PlusEqual
assign_mark assign.Subtract = m.MinusEqual
assign_mark assign.Multiply = m.StarEqual
assign_mark assign.Divide = m.SlashEqual
assign_mark assign.Remainder = m.PercentEqual
assign_mark assign.BitAnd = m.AmpersandEqual
assign_mark assign.BitOr = m.BarEqual
assign_mark assign.BitXor = m.CaretEqual
assign_mark assign.ShiftLeft = m.ShiftLeftEqual
assign_mark assign.ShiftRight = m.ShiftRightEqual

abbrev pub prefix_mark : UnaryOp → Mark
prefix_mark unary.Increment = m.PlusPlus
prefix_mark unary.Decrement = m.MinusMinus
prefix_mark unary.Negate = m.Minus
prefix_mark unary.Plus = m.Plus
prefix_mark unary.Complement = m.Tilde
prefix_mark unary.Not = m.Exclamation
prefix_mark unary.Address = m.Ampersand
prefix_mark unary.Indirect = m.Star

abbrev pub selector_mark : Selector → Mark
selector_mark selector.Dot = m.Dot
selector_mark selector.Arrow = m.Arrow

abbrev pub follower_of : Mark → Follower
follower_of m.Star = follower.Binary binary.Multiply
follower_of m.OpenParen = follower.OpenParen
follower_of m.CloseParen = follower.CloseParen
follower_of m.Semicolon = follower.Semicolon
follower_of m.Equal = follower.Assign assign.Set
follower_of m.Comma = follower.Comma
follower_of m.Minus = follower.Binary binary.Subtract
follower_of m.OpenBracket = follower.OpenBracket
follower_of m.CloseBracket = follower.CloseBracket
follower_of m.Ampersand = follower.Binary binary.BitAnd
follower_of m.Dot = follower.Select selector.Dot
follower_of m.PlusEqual = follower.Assign assign.Add
follower_of m.MinusEqual = follower.Assign assign.Subtract
follower_of m.StarEqual = follower.Assign assign.Multiply
follower_of m.SlashEqual = follower.Assign assign.Divide
follower_of m.PercentEqual = follower.Assign assign.Remainder
follower_of m.AmpersandEqual = follower.Assign assign.BitAnd
follower_of m.BarEqual = follower.Assign assign.BitOr
follower_of m.CaretEqual = follower.Assign assign.BitXor
follower_of m.ShiftLeftEqual = follower.Assign assign.ShiftLeft
follower_of m.ShiftRightEqual = follower.Assign assign.ShiftRight
follower_of m.Question = follower.Question
follower_of m.Colon = follower.Colon
follower_of m.BarBar = follower.Binary binary.Or
follower_of m.AmpersandAmpersand = follower.Binary binary.And
follower_of m.Bar = follower.Binary binary.BitOr
follower_of m.Caret = follower.Binary binary.BitXor
follower_of m.EqualEqual = follower.Binary binary.Equal
follower_of m.NotEqual = follower.Binary binary.NotEqual
follower_of m.Less = follower.Binary binary.Less
follower_of m.LessEqual = follower.Binary binary.LessEqual
follower_of m.Greater = follower.Binary binary.Greater
follower_of m.GreaterEqual = follower.Binary binary.GreaterEqual
follower_of m.ShiftLeft = follower.Binary binary.ShiftLeft
follower_of m.ShiftRight = follower.Binary binary.ShiftRight
follower_of m.Plus = follower.Binary binary.Add
follower_of m.Slash = follower.Binary binary.Divide
follower_of m.Percent = follower.Binary binary.Remainder
follower_of m.PlusPlus = follower.Increment
follower_of m.MinusMinus = follower.Decrement
follower_of m.Arrow = follower.Select selector.Arrow
follower_of _ = follower.Nothing

abbrev pub opener_of : Mark → Opener
opener_of m.Star = opener.Prefix unary.Indirect
opener_of m.OpenParen = opener.OpenParen
opener_of m.CloseParen = opener.CloseParen
opener_of m.Minus = opener.Prefix unary.Negate
opener_of m.Ampersand = opener.Prefix unary.Address
opener_of m.Plus = opener.Prefix unary.Plus
opener_of m.PlusPlus = opener.Prefix unary.Increment
opener_of m.MinusMinus = opener.Prefix unary.Decrement
opener_of m.Tilde = opener.Prefix unary.Complement
opener_of m.Exclamation = opener.Prefix unary.Not
opener_of _ = opener.Nothing

-- the mark that is this behind an operand
abbrev pub IsFollower : Mark → Follower → Type 0
IsFollower k follower.OpenParen = k ≡ m.OpenParen
IsFollower k follower.OpenBracket = k ≡ m.OpenBracket
IsFollower k follower.Increment = k ≡ m.PlusPlus
IsFollower k follower.Decrement = k ≡ m.MinusMinus
IsFollower k follower.Question = k ≡ m.Question
IsFollower k follower.CloseParen = k ≡ m.CloseParen
IsFollower k follower.CloseBracket = k ≡ m.CloseBracket
IsFollower k follower.Colon = k ≡ m.Colon
IsFollower k follower.Comma = k ≡ m.Comma
IsFollower k follower.Semicolon = k ≡ m.Semicolon
IsFollower k (follower.Select s) = k ≡ selector_mark s
IsFollower k (follower.Assign op) = k ≡ assign_mark op
IsFollower k (follower.Binary op) = k ≡ binary_mark op
IsFollower k follower.Nothing = Unit {0}

abbrev pub IsOpener : Mark → Opener → Type 0
IsOpener k opener.OpenParen = k ≡ m.OpenParen
IsOpener k opener.CloseParen = k ≡ m.CloseParen
IsOpener k (opener.Prefix op) = k ≡ prefix_mark op
IsOpener k opener.Nothing = Unit {0}
