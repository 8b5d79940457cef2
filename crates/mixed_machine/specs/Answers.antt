-- What calls answer and leave, against the definition.
use Rattle.std.specs.Prelude.{◌≡◌, ℕ, ◌<◌, List, ◌++◌, Option, Some, None, Result, Ok, Err, IsOk}
use Rattle.hx_io.specs.Streams.{AppendsPrefix}
use Rattle.machine_rules.specs.declared.ends.GuestEnd.{GuestEnd}
use Rattle.machine_rules.specs.declared.ends.GuestEnd.TheVariants.{Exit as GuestExit, Trap as GuestTrap, StackSpent as GuestStackSpent, Stuck as GuestStuck}
use Rattle.machine_rules.specs.declared.ends.RunEnd.{RunEnd}
use Rattle.machine_rules.specs.declared.ends.RunEnd.TheVariants.{Exit, Trap, Budget, StackSpent, Stuck, ReadFault, WriteFault}
use Rattle.machine_rules.specs.declared.places.Place.{Place}
use Rattle.machine_rules.specs.declared.places.Place.TheVariants.{AtService, InRange, Nowhere}
use Rattle.machine_rules.specs.declared.places.Service.{Service}
use Rattle.machine_rules.specs.declared.places.Service.TheVariants.{PutByte, GetByte, ExitGuest, TrapGuest, CheckCall, DispatchCall, DispatchReturn}
use Rattle.machine_rules.specs.State.{Guest, Code, After, Act}
use Rattle.machine_rules.specs.Steps.{back}
use Rattle.machine_rules.specs.Runs.{act_of, run_from}
use Rattle.mixed_machine.specs.declared.machine.StepEnd.{StepEnd}
use Rattle.mixed_machine.specs.declared.machine.StepEnd.TheVariants.{Going, Ended}
use Rattle.mixed_machine.specs.declared.services.Fault.{Fault}
use Rattle.mixed_machine.specs.declared.services.Fault.TheVariants.{OfSource, OfSink}
use Rattle.mixed_machine.specs.States.{after_with}

-- a step that was made, with its end if it has one, leaves what the definition's does; where the outside failed,
-- nothing changed
abbrev pub Moves : Result (Option GuestEnd) Fault → Act → Guest → List ℕ → Guest → List ℕ → Type 0
Moves (Ok end) act old left new rest = act.after ≡ after_with end new rest
Moves (Err fault) act old left new rest = (new ≡ old) × (rest ≡ left)

-- what a sink holds that held some bytes, after a step
abbrev pub StepPuts : Result (Option GuestEnd) Fault → List ℕ → List ℕ → List ℕ → Type 0
StepPuts (Ok end) old put new = new ≡ old ++ put
StepPuts (Err OfSource) old put new = new ≡ old
StepPuts (Err OfSink) old put new = AppendsPrefix old put new

-- the guest stands at a service for input, or for output, and can return from it
abbrev pub AwaitsInputAt : Service → Code → Guest → Type 0
AwaitsInputAt (PutByte side) code g = ⊥
AwaitsInputAt (GetByte side) code g = IsOk (back side code g)
AwaitsInputAt (ExitGuest side) code g = ⊥
AwaitsInputAt (TrapGuest side) code g = ⊥
AwaitsInputAt CheckCall code g = ⊥
AwaitsInputAt DispatchCall code g = ⊥
AwaitsInputAt DispatchReturn code g = ⊥

abbrev pub AwaitsOutputAt : Service → Code → Guest → Type 0
AwaitsOutputAt (PutByte side) code g = IsOk (back side code g)
AwaitsOutputAt (GetByte side) code g = ⊥
AwaitsOutputAt (ExitGuest side) code g = ⊥
AwaitsOutputAt (TrapGuest side) code g = ⊥
AwaitsOutputAt CheckCall code g = ⊥
AwaitsOutputAt DispatchCall code g = ⊥
AwaitsOutputAt DispatchReturn code g = ⊥

abbrev pub AwaitsInput : Place → Code → Guest → Type 0
AwaitsInput (AtService service) code g = AwaitsInputAt service code g
AwaitsInput (InRange side) code g = ⊥
AwaitsInput Nowhere code g = ⊥

abbrev pub AwaitsOutput : Place → Code → Guest → Type 0
AwaitsOutput (AtService service) code g = AwaitsOutputAt service code g
AwaitsOutput (InRange side) code g = ⊥
AwaitsOutput Nowhere code g = ⊥

-- what an answer says of how the machine ended: a machine whose run was cut short by its budget or by the outside
-- goes on from the state that it has
abbrev pub Tells : RunEnd → Option GuestEnd → Type 0
Tells (Exit k) end = end ≡ Some (GuestExit k)
Tells (Trap k) end = end ≡ Some (GuestTrap k)
Tells StackSpent end = end ≡ Some GuestStackSpent
Tells (Stuck why pc) end = end ≡ Some (GuestStuck why pc)
Tells Budget end = end ≡ None
Tells ReadFault end = end ≡ None
Tells WriteFault end = end ≡ None

abbrev pub run_end_of : GuestEnd → RunEnd
run_end_of (GuestExit k) = Exit k
run_end_of (GuestTrap k) = Trap k
run_end_of GuestStackSpent = StackSpent
run_end_of (GuestStuck why pc) = Stuck why pc

-- a run of n steps is the definition's; at a fault it has made fewer, and the next one is the one that failed
abbrev pub Runs : RunEnd → Code → ℕ → After → After → Type 0
Runs (Exit k) code n old new = new ≡ (run_from code n old).after
Runs (Trap k) code n old new = new ≡ (run_from code n old).after
Runs StackSpent code n old new = new ≡ (run_from code n old).after
Runs (Stuck why pc) code n old new = new ≡ (run_from code n old).after
Runs Budget code n old new = new ≡ (run_from code n old).after
Runs ReadFault code n old new = (k : ℕ) × (k < n) × (new ≡ (run_from code k old).after)
Runs WriteFault code n old new = (k : ℕ) × (k < n) × (new ≡ (run_from code k old).after)

-- what the sink holds after it: the output of its steps; where the sink failed, also a prefix of what the next one
-- puts
abbrev pub RunPuts : RunEnd → Code → ℕ → After → After → List ℕ → List ℕ → Type 0
RunPuts (Exit k) code n old new start bytes = bytes ≡ start ++ (run_from code n old).output
RunPuts (Trap k) code n old new start bytes = bytes ≡ start ++ (run_from code n old).output
RunPuts StackSpent code n old new start bytes = bytes ≡ start ++ (run_from code n old).output
RunPuts (Stuck why pc) code n old new start bytes = bytes ≡ start ++ (run_from code n old).output
RunPuts Budget code n old new start bytes = bytes ≡ start ++ (run_from code n old).output
RunPuts ReadFault code n old new start bytes =
    (k : ℕ) × (k < n) × (new ≡ (run_from code k old).after) × (bytes ≡ start ++ (run_from code k old).output)
RunPuts WriteFault code n old new start bytes =
    (k : ℕ) × (k < n) × (new ≡ (run_from code k old).after) × AppendsPrefix (start ++ (run_from code k old).output) (act_of code new).put bytes

-- the same of one step; it never spends a budget
abbrev pub TellsStep : StepEnd → Option GuestEnd → Type 0
TellsStep Going end = end ≡ None
TellsStep (Ended (Exit k)) end = end ≡ Some (GuestExit k)
TellsStep (Ended (Trap k)) end = end ≡ Some (GuestTrap k)
TellsStep (Ended StackSpent) end = end ≡ Some GuestStackSpent
TellsStep (Ended (Stuck why pc)) end = end ≡ Some (GuestStuck why pc)
TellsStep (Ended Budget) end = ⊥
TellsStep (Ended ReadFault) end = end ≡ None
TellsStep (Ended WriteFault) end = end ≡ None

abbrev pub StepsTo : StepEnd → Act → After → After → Type 0
StepsTo Going act old new = new ≡ act.after
StepsTo (Ended (Exit k)) act old new = new ≡ act.after
StepsTo (Ended (Trap k)) act old new = new ≡ act.after
StepsTo (Ended StackSpent) act old new = new ≡ act.after
StepsTo (Ended (Stuck why pc)) act old new = new ≡ act.after
StepsTo (Ended Budget) act old new = ⊥
StepsTo (Ended ReadFault) act old new = new ≡ old
StepsTo (Ended WriteFault) act old new = new ≡ old

abbrev pub StepLeaves : StepEnd → List ℕ → List ℕ → List ℕ → Type 0
StepLeaves Going old put new = new ≡ old ++ put
StepLeaves (Ended (Exit k)) old put new = new ≡ old ++ put
StepLeaves (Ended (Trap k)) old put new = new ≡ old ++ put
StepLeaves (Ended StackSpent) old put new = new ≡ old ++ put
StepLeaves (Ended (Stuck why pc)) old put new = new ≡ old ++ put
StepLeaves (Ended Budget) old put new = ⊥
StepLeaves (Ended ReadFault) old put new = new ≡ old
StepLeaves (Ended WriteFault) old put new = AppendsPrefix old put new
