-- The table of commands: this project's own.
use Rattle.std.specs.Prelude.{ℕ, List, [], ◌∷◌, Bool, true, false, Option, Some, None, codes, if◌then◌else◌}
use Rattle.std.specs.Str.{bytes_eq}
use Rattle.std.specs.List.{list_any}
use Rattle.ec_words.specs.declared.table.Verb.{Verb}
use Rattle.ec_words.specs.declared.table.Verb.TheVariants.{Check, Interp, Compile, Link, Build, Run, Exec, Gen, Many}

-- a word, as its bytes
abbrev pub Text : Type 0
Text = List ℕ

-- the command of this name
abbrev pub verb_of : Text → Option Verb
verb_of word =
    if bytes_eq word (codes "check") then Some Check
    else (if bytes_eq word (codes "interp") then Some Interp
    else (if bytes_eq word (codes "compile") then Some Compile
    else (if bytes_eq word (codes "link") then Some Link
    else (if bytes_eq word (codes "build") then Some Build
    else (if bytes_eq word (codes "run") then Some Run
    else (if bytes_eq word (codes "exec") then Some Exec
    else (if bytes_eq word (codes "gen") then Some Gen
    else (if bytes_eq word (codes "many") then Some Many
    else None))))))))

-- the command takes one positional word or more, and not exactly one
abbrev pub takes_many : Verb → Bool
takes_many Run = false
takes_many Gen = false
takes_many Many = false
takes_many _ = true

-- the options that the command may have
abbrev pub options_of : Verb → List Text
options_of Check = []
options_of Interp = codes "--fuel" ∷ []
options_of Compile = codes "-o" ∷ codes "-m" ∷ []
options_of Link = codes "-o" ∷ codes "--stack" ∷ []
options_of Build = codes "-o" ∷ codes "-m" ∷ codes "--stack" ∷ []
options_of Run = codes "--base" ∷ codes "--fuel" ∷ []
options_of Exec = codes "-o" ∷ codes "-m" ∷ codes "--stack" ∷ codes "--base" ∷ codes "--fuel" ∷ []
options_of Gen = codes "--size" ∷ []
options_of Many = codes "-o" ∷ []

-- the command must have the option `-o`, as each that may have it must
abbrev pub needs_output : Verb → Bool
needs_output verb = list_any (λ name. bytes_eq name (codes "-o")) (options_of verb)
