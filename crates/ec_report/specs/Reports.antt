-- The table of reports: the line that goes to standard error, and the exit status. Both are this
-- project's own.
use Rattle.std.specs.Prelude.{ℕ, List, [], ◌∷◌, ◌++◌, codes, false}
use Rattle.std.specs.Fmt.{decimal, digits}
use Rattle.ec_report.specs.Names.{why_name, type_name, limit_name, image_name, load_name}
use Rattle.ec_report.specs.declared.kinds.Outcome.{Outcome}
use Rattle.ec_report.specs.declared.kinds.Outcome.TheVariants.{Exit, Trap, Budget, StackSpent, Stuck}
use Rattle.ec_report.specs.declared.kinds.UnitRefusal.{UnitRefusal}
use Rattle.ec_report.specs.declared.kinds.UnitRefusal.TheVariants.{BadByte, BadNumber, Unclosed, Directive, Syntax, TooDeep, Typing}
use Rattle.ec_report.specs.declared.kinds.LimitKind.{LimitKind}
use Rattle.ec_report.specs.declared.reports.Report.{Report}
use Rattle.ec_report.specs.declared.reports.Report.TheVariants.{Built, Checked, Generated, Compared, Guest, Meant, Usage, Unit, Limit, Mark, Image, Load, Missing, NotBuilt, StoreFault, ReadFault, WriteFault, NoMemory}

-- the text of an outcome; the program counter is in hexadecimal, in small letters, with no leading zero
abbrev pub outcome_text : Outcome → List ℕ
outcome_text (Exit k) = codes "exit " ++ decimal k
outcome_text (Trap k) = codes "trap " ++ decimal k
outcome_text Budget = codes "budget"
outcome_text StackSpent = codes "stack spent"
outcome_text (Stuck why pc) = codes "stuck " ++ (why_name why ++ (codes " at 0x" ++ digits 16 false pc))

-- a kind, and a place in decimal
abbrev pub placed : List ℕ → ℕ → List ℕ
placed kind at = kind ++ (codes " at " ++ decimal at)

-- the text of a refused unit, behind the unit's number
abbrev pub unit_text : UnitRefusal → List ℕ
unit_text (BadByte at) = placed (codes "BadByte") at
unit_text (BadNumber at) = placed (codes "BadNumber") at
unit_text (Unclosed at) = placed (codes "Unclosed") at
unit_text (Directive at) = placed (codes "Directive") at
unit_text (Syntax at) = placed (codes "Syntax") at
unit_text TooDeep = codes "TooDeep"
unit_text (Typing kind at) = placed (type_name kind) at

-- a word, a name as it is, and a line feed (10)
abbrev pub named_line : List ℕ → List ℕ → List ℕ
named_line word name = word ++ (name ++ (10 ∷ []))

abbrev pub guest_line : Outcome → List ℕ
guest_line outcome = outcome_text outcome ++ (10 ∷ [])

abbrev pub meant_line : Outcome → ℕ → ℕ → List ℕ
meant_line outcome units peak = outcome_text outcome ++ (codes " units " ++ (decimal units ++ (codes " peak " ++ (decimal peak ++ (10 ∷ [])))))

abbrev pub unit_line : ℕ → UnitRefusal → List ℕ
unit_line i refusal = codes "unit " ++ (decimal i ++ (codes ": " ++ (unit_text refusal ++ (10 ∷ []))))

abbrev pub limit_line : LimitKind → ℕ → List ℕ
limit_line which count = codes "limit " ++ (limit_name which ++ (codes " " ++ (decimal count ++ (10 ∷ []))))

-- the line of a report, its line feed included
abbrev pub line_of : Report → List ℕ
line_of Built = codes "built" ++ (10 ∷ [])
line_of Checked = codes "checked" ++ (10 ∷ [])
line_of Generated = codes "generated" ++ (10 ∷ [])
line_of Compared = codes "compared" ++ (10 ∷ [])
line_of (Guest outcome) = guest_line outcome
line_of (Meant outcome units peak) = meant_line outcome units peak
line_of Usage = codes "usage" ++ (10 ∷ [])
line_of (Unit i refusal) = unit_line i refusal
line_of (Limit which count) = limit_line which count
line_of (Mark name) = named_line (codes "mark ") name.items
line_of (Image why) = named_line (codes "image: ") (image_name why)
line_of (Load why) = named_line (codes "load: ") (load_name why)
line_of (Missing name) = named_line (codes "missing ") name.items
line_of NotBuilt = codes "not built" ++ (10 ∷ [])
line_of StoreFault = codes "store fault" ++ (10 ∷ [])
line_of ReadFault = codes "read fault" ++ (10 ∷ [])
line_of WriteFault = codes "write fault" ++ (10 ∷ [])
line_of NoMemory = codes "no memory" ++ (10 ∷ [])

-- the exit status of an outcome, and of a report
abbrev pub outcome_status : Outcome → ℕ
outcome_status (Exit k) = 0
outcome_status (Trap k) = 10
outcome_status Budget = 11
outcome_status StackSpent = 12
outcome_status (Stuck why pc) = 13

abbrev pub status_number : Report → ℕ
status_number Built = 0
status_number Checked = 0
status_number Generated = 0
status_number Compared = 0
status_number (Guest outcome) = outcome_status outcome
status_number (Meant outcome units peak) = outcome_status outcome
status_number Usage = 2
status_number (Unit i refusal) = 20
status_number (Limit which count) = 21
status_number (Mark name) = 22
status_number (Image why) = 25
status_number (Load why) = 26
status_number (Missing name) = 27
status_number NotBuilt = 29
status_number StoreFault = 30
status_number ReadFault = 31
status_number WriteFault = 32
status_number NoMemory = 33
