-- The router's answers as the code returns them, and the router asked with any routes.
use Rattle.std.specs.Prelude.{ℕ, ◌*◌, Bool, Option, None, Some, Result, Ok, Err, cond, ◌&&◌, ◌||◌, List, [], eqb, ltb, leb, length}
use Rattle.base.specs.Sizes.{sites_most}
use Rattle.sets.specs.Sets.{minus, lowest, targets}
use Rattle.types.specs.declared.Connection.TheVariants.{Passthru}
use Rattle.types.specs.declared.Input.{Input}
use Rattle.types.specs.declared.Output.{Output}
use Rattle.types.specs.declared.Network.{Network}
use Rattle.draws.specs.Draws.{restricted}
use Rattle.model.specs.Types.{out_of}
use Rattle.model.specs.Network.{list_of}
use Rattle.model.specs.Router.{Choice as ModelChoice, Chosen, Unserved, Gathered, Every, Missing, is_empty}
use Rattle.model.specs.Router.{first_empty, gather, spread, branch, or_else, to_other, route, Answered as ModelAnswered, ask}
use Rattle.model.specs.NetInput.{passes_on}
use Rattle.rules.specs.declared.router.Choice.{Choice}
use Rattle.rules.specs.declared.search.Search.{Search}

-- a port; 0 is none
abbrev pub of_port : ℕ → Option ℕ
of_port j = cond (eqb j 0) None (Some j)

abbrev pub of_gathered : Gathered → Option (List ℕ)
of_gathered (Every sets) = Some sets
of_gathered Missing = None

abbrev pub of_choice : ModelChoice → Option Choice
of_choice (Chosen c sets) = Some (record { sets = sets; connection = c })
of_choice Unserved = None

-- a choice, or the outputs in the way
abbrev pub or_blocked : ModelChoice → ℕ → Result Choice ℕ
or_blocked (Chosen c sets) B = Ok (record { sets = sets; connection = c })
or_blocked Unserved B = Err B

abbrev pub of_answered : ModelAnswered → Result Choice ℕ
of_answered w = or_blocked w.found w.blocking

-- a network of S sites with these routes in an edition and tries T, all that a net-input in seek reads of one
abbrev pub seek_only : ℕ → ℕ → ℕ → List ℕ → Network
seek_only edition S T l =
    record { sites = S; depth = 0; tries = T; version = 0; edition = edition; channels = []; routes = l }

-- the same without the tries, all that the router reads
abbrev pub routes_only : ℕ → ℕ → List ℕ → Network
routes_only edition S l = seek_only edition S 0 l

-- the network that a search reads
abbrev pub searched : Search → Network
searched q = routes_only q.edition q.sites q.routes.now

-- "Two or more targets": the rules after those for a single target, first the spread over the targets in Y
abbrev pub spread_targets : Network → ℕ → List Output → ℕ → ℕ → ModelChoice
spread_targets n s os X Y = cond (is_empty os 0) (spread s X (gather n s os Y)) Unserved

abbrev pub spread_or_pass : Network → ℕ → List Output → ℕ → ModelChoice
spread_or_pass n s os X = or_else (spread_targets n s os X (minus s X)) (to_other n s os Passthru X (lowest (minus s X)))

-- the rules in their place in edition 3, and both by the edition
abbrev pub branch_or_pass : Network → ℕ → List Output → ℕ → ModelChoice
branch_or_pass n s os X = branch s os X (first_empty os (list_of n s (lowest (minus s X))))

abbrev pub several : Network → ℕ → List Output → ℕ → ModelChoice
several n s os X = cond (restricted n.edition) (branch_or_pass n s os X) (spread_or_pass n s os X)

-- site s is one of S sites, X a target set of theirs
abbrev pub proper : ℕ → ℕ → ℕ → Bool
proper S s X = ltb s S && leb S sites_most && targets S X

-- the router can be asked: that, and l has the room of all routes
abbrev pub askable : List ℕ → ℕ → ℕ → ℕ → Bool
askable l S s X = ltb s S && leb S sites_most && eqb (length l) (sites_most * sites_most) && targets S X

-- what the router says of routes l in an edition; where it can not be asked nothing serves
abbrev pub asked_by : ℕ → List ℕ → ℕ → ℕ → List Output → ℕ → ModelChoice
asked_by edition l S s os X = cond (askable l S s X) (route (routes_only edition S l) s os X) Unserved

-- the same with the outputs in the way (L7), and what a net-input y passes on of them, the tries being T
abbrev pub answered_by : ℕ → List ℕ → ℕ → ℕ → List Output → ℕ → ModelAnswered
answered_by edition l S s os X = cond (askable l S s X) (ask (routes_only edition S l) s os X) (record { found = Unserved; blocking = 0 })

abbrev pub passed_of : ℕ → Input → List Output → Result Choice ℕ → ℕ
passed_of T y os (Ok a) = 0
passed_of T y os (Err B) = cond (ltb y.tries T || (out_of os 0).used) B 0

abbrev pub passed_by : ℕ → List ℕ → ℕ → ℕ → ℕ → Input → List Output → ℕ
passed_by edition l S T s y os = cond (askable l S s y.set) (passes_on (seek_only edition S T l) s y os) 0
