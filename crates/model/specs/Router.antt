-- Document 01, "Router at site s with set X; the choice stops at the first output that serves, and only empty outputs serve."
-- A choice gives each output its set; 0 for an output that is not chosen.
use Rattle.std.specs.Prelude.{ℕ, zero, suc, ◌+◌, List, [], ◌∷◌, Bool, true, false, cond, not, ◌&&◌, ◌||◌, eqb, leb, get_or, set, replicate}
use Rattle.base.specs.Sizes.{output_count, port_count, split_port}
use Rattle.base.specs.Bools.{count}
use Rattle.base.specs.All.{any}
use Rattle.base.specs.Sums.{sum}
use Rattle.sets.specs.Sets.{has, only, plus, minus, size, lowest, those}
use Rattle.model.specs.Types.{Connection, Unicast, Passthru, AllRemote, SomeLocal, Branch, Output, Network, no_output, out_of}
use Rattle.draws.specs.Draws.{restricted}
use Rattle.model.specs.Network.{choice, list_of}

pub data Choice : Type 0 where
  Chosen : Connection → List ℕ → Choice
  Unserved : Choice

abbrev pub unchosen : List ℕ
unchosen = replicate output_count 0

abbrev pub is_chosen : List ℕ → ℕ → Bool
is_chosen sets j = not (eqb (get_or sets j 0) 0)

abbrev pub is_empty : List Output → ℕ → Bool
is_empty os j = not (out_of os j).used

abbrev pub is_port : ℕ → Bool
is_port j = leb 1 j && leb j port_count

-- "empty or already chosen for this packet": port j, with the sets chosen so far
abbrev pub serves : List Output → List ℕ → ℕ → Bool
serves os sets j = is_port j && (is_empty os j || is_chosen sets j)

-- "the first output in its list that ..", 0 if there is none
unfoldable pub first_port : (ℕ → Bool) → List ℕ → ℕ
first_port ok [] = 0
first_port ok (j ∷ js) = let later = first_port ok js in cond (ok j) j later

-- the whole X goes to output j
abbrev pub one_output : Connection → ℕ → ℕ → Choice
one_output c X j = Chosen c (set unchosen j X)

-- "output 0, unicast"
abbrev pub to_own : List Output → ℕ → Choice
to_own os X = cond (is_empty os 0) (one_output Unicast X 0) Unserved

abbrev pub on_port : Connection → ℕ → ℕ → Choice
on_port c X j = cond (eqb j 0) Unserved (one_output c X j)

-- "the first empty output in t's list": no port is chosen yet, so only an empty output serves
abbrev pub first_empty : List Output → List ℕ → ℕ
first_empty os l = first_port (serves os unchosen) l

abbrev pub to_other : Network → ℕ → List Output → Connection → ℕ → ℕ → Choice
to_other n s os c X t = on_port c X (first_empty os (list_of n s t))

-- "for each t other than s, ascending, the first output in its list that is empty or already chosen for this packet":
-- for the targets in Y among so many more sites from t on; port j gets the target t too
pub data Gathered : Type 0 where
  Every : List ℕ → Gathered
  Missing : Gathered

abbrev pub gets : List ℕ → ℕ → ℕ → List ℕ
gets sets j t = set sets j (plus t (get_or sets j 0))

module _ (n : Network) (s : ℕ) (os : List Output) (Y : ℕ) where
  unfoldable pub gather_from : ℕ → ℕ → List ℕ → Gathered
  gather_from zero t sets = Every sets
  gather_from (suc more) t sets =
      let j = first_port (serves os sets) (list_of n s t) in
      let on = gather_from more (t + 1) (gets sets j t) in
      let found = cond (eqb j 0) Missing on in
      let past = gather_from more (t + 1) sets in
      cond (has t Y) found past

unfoldable pub gather : Network → ℕ → List Output → ℕ → Gathered
gather n s os Y = gather_from n s os Y n.sites 0 unchosen

-- "where a single remote output was chosen and s isn't in X, passthru on it with X, output 0 not taken. Otherwise split: each remote output
-- gets its own targets, output 0 gets the whole X; some-local if s is in X, else all-remote."
abbrev pub chosen_count : List ℕ → ℕ
chosen_count sets = sum (λ X. count (not (eqb X 0))) sets

abbrev pub first_chosen : List ℕ → ℕ
first_chosen sets = first_port (is_chosen sets) (1 ∷ 2 ∷ 3 ∷ 4 ∷ [])

unfoldable pub spread : ℕ → ℕ → Gathered → Choice
spread s X Missing = Unserved
spread s X (Every sets) =
    cond (eqb (chosen_count sets) 1 && not (has s X)) (one_output Passthru X (first_chosen sets))
    (Chosen (cond (has s X) SomeLocal AllRemote) (set sets 0 X))

-- L10: "With two or more targets, s among them and the split output empty: {s} goes there and the rest to the first empty output of
-- the lowest other target. With the split output busy, or s not among them: the whole set that way." j is that output, 0 if there
-- is none
abbrev pub parted : ℕ → ℕ → ℕ → Choice
parted s X j = cond (eqb j 0) Unserved (Chosen Branch (set (set unchosen j (minus s X)) split_port (only s)))

unfoldable pub branch : ℕ → List Output → ℕ → ℕ → Choice
branch s os X j = cond (has s X && is_empty os split_port) (parted s X j) (on_port Passthru X j)

unfoldable pub or_else : Choice → Choice → Choice
or_else (Chosen c sets) other = Chosen c sets
or_else Unserved other = other

-- the router's rules but the last
unfoldable pub route : Network → ℕ → List Output → ℕ → Choice
route n s os X =
    -- "X = {s}: output 0, unicast."
    cond (eqb X (only s)) (to_own os X)
    -- "X = {t}, another site: the first empty output in t's list, unicast."
    (cond (eqb (size X) 1) (to_other n s os Unicast X (lowest X))
    -- L10, edition 3: "a packet splits only into its local target and one way onward"
    (cond (restricted n.edition) (branch s os X (first_empty os (list_of n s (lowest (minus s X)))))
    -- "Two or more targets and output 0 empty: .."
    (or_else (cond (is_empty os 0) (spread s X (gather n s os (minus s X))) Unserved)
    -- "Otherwise, .. passthru of the whole X to the first empty output in the list of the lowest t other than s."
    (to_other n s os Passthru X (lowest (minus s X))))))

-- L7: "the router's answer to name the set of outputs whose emptying would each, alone, have let this packet connect, the handed
-- rule left aside": route is the rules without that one
abbrev pub finds : Choice → Bool
finds (Chosen c sets) = true
finds Unserved = false

-- the same outputs with j alone emptied
abbrev pub emptied : List Output → ℕ → List Output
emptied os j = set os j no_output

-- output j is in use, and with it emptied there is a choice
unfoldable pub blocks : Network → ℕ → List Output → ℕ → ℕ → Bool
blocks n s os X j = not (is_empty os j) && finds (route n s (emptied os j) X)

-- the router's answer: its choice; the set where there is none, no output where there is one
pub record Answered : Type 0 where
  pub found : Choice
  pub blocking : ℕ

unfoldable pub ask : Network → ℕ → List Output → ℕ → Answered
ask n s os X =
    let w = route n s os X in
    record { found = w; blocking = cond (finds w) 0 (those (blocks n s os X) output_count) }

-- which outputs these are, as proofs/Blocking.antt shows: output 0 for X = {s}, else the ports in the list of the lowest target
-- other than s
abbrev pub listed : List ℕ → ℕ → Bool
listed l j = any (λ m. eqb (choice l m) j) port_count

unfoldable pub ways : Network → ℕ → ℕ → ℕ → Bool
ways n s X j = cond (eqb X (only s)) (eqb j 0) (is_port j && listed (list_of n s (lowest (minus s X))) j)
