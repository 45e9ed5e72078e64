-- The outputs that an arm of a net-input looks at and stores, by marks bs, one an output; the others are neither read nor written.
use Rattle.std.specs.Prelude.{ℕ, List, [], ◌∷◌, Bool, true, false, Option, None, Some, cond, ◌&&◌, eqb, set}
use Rattle.base.specs.Over.{over}
use Rattle.base.specs.Rows.{rows}
use Rattle.base.specs.Sizes.{output_count, split_port}
use Rattle.draws.specs.Draws.{restricted}
use Rattle.types.specs.Numbers.{state_number}
use Rattle.types.specs.declared.Terminator.TheVariants.{None as t_none}
use Rattle.types.specs.declared.Phase.TheVariants.{the_data as Phase, Free, Seek, Open, Wait, Done, Last, Abort as Aborted, FinAbort}
use Rattle.types.specs.declared.Input.{Input}
use Rattle.types.specs.declared.Output.{Output}
use Rattle.rules.specs.declared.inputs.InputTurn.{InputTurn}
use Rattle.model.specs.Types.{no_marks, no_output, out_of, mark}
use Rattle.model.specs.NetInput.{Turn, Stay, To}

-- what is read of the outputs os: empty ones in the place of the others
unfoldable pub masked : List Bool → List Output → List Output
masked bs os = rows output_count (λ j. cond (mark bs j) (out_of os j) no_output)

-- what is left of them where the outputs l are stored
unfoldable pub merged : List Bool → List Output → List Output → List Output
merged bs l os = over (λ j. cond (mark bs j) (out_of l j) (out_of os j)) output_count os

abbrev pub merged_turn : List Bool → List Output → Turn Input (List Output) → Turn Input (List Output)
merged_turn bs os Stay = Stay
merged_turn bs os (To y l) = To y (merged bs l os)

-- output 0 alone
abbrev pub zeroth : List Bool
zeroth = set no_marks 0 true

-- the outputs that the rule of a net-input in this state changes, bs being those that it is connected to; in seek they are not known yet
abbrev pub touched : Phase → List Bool → List Bool
touched Free bs = no_marks
touched Seek bs = no_marks
touched (Open c) bs = no_marks
touched (Wait c) bs = no_marks
touched (Done c r) bs = bs
touched (Last c r) bs = no_marks
touched (Aborted c) bs = no_marks
touched (FinAbort c r) bs = zeroth

-- those that the router's answer takes: of a net-input that went to open the connected ones
abbrev pub opens : Input → List Bool
opens y = cond (eqb (state_number y.phase) 2) y.outputs no_marks

abbrev pub opening : Option InputTurn → List Bool
opening None = no_marks
opening (Some r) = opens r.input

-- those that the timeout looks at: output 0, and the connected ones
abbrev pub cutting : List Bool → List Bool
cutting bs = set bs 0 true

-- an output of which it is known whether it is in use, all that the router asks
abbrev pub glimpse : Bool → Output
glimpse u = record { set = 0; terminator = t_none; packet = 0; input = 0; used = u; head = false; closing = false }

-- the outputs os as the router of an edition sees them: the split output in edition 3 alone
unfoldable pub seen : ℕ → List Output → List Output
seen edition os =
    glimpse (out_of os 0).used
    ∷ glimpse (out_of os 1).used
    ∷ glimpse (out_of os 2).used
    ∷ glimpse (out_of os 3).used
    ∷ glimpse (out_of os 4).used
    ∷ glimpse (restricted edition && (out_of os split_port).used)
    ∷ []
