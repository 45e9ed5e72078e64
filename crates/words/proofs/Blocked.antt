-- The outputs in the way, read from the words of a state in range. Assumes nothing beyond each statement.
use Prim.Native.Nat.{ℕ, ◌*◌, ◌≤◌, ◌<◌}
use mathlib.Core.Path.{◌≡◌, refl, ap, ◌∙◌}
use mathlib.Core.List.{List}
use mathlib.Core.Bool.{true, ◌&&◌}
use borrow.Author.Tests.{lt-ltb, le-leb, eq-eqb}
use lib.Dec.{eqb, ltb, leb}
use lib.ListN.{length}
use Rattle.base.specs.Sizes.{input_count, sites_most}
use Rattle.base.specs.Bools.{and}
use Rattle.sets.specs.Sets.{targets}
use Rattle.types.specs.Numbers.{state_number}
use Rattle.types.specs.declared.Network.{Network}
use Rattle.types.specs.declared.Site.{Site}
use Rattle.model.specs.Types.{in_at}
use Rattle.model.specs.Steps.{blocking_at}
use Rattle.model.proofs.Blocking.{seeks_at, passes_where, passes_same}
use Rattle.rules.specs.Router.{seek_only, askable, passed_by}
use Rattle.rules.proofs.Asked.{route_same}
use Rattle.words.specs.Events.{RunAsks, site_in}

askable_by : (m : List ℕ) (S s X : ℕ) → s < S → S ≤ sites_most → length m ≡ sites_most * sites_most → targets S X ≡ true
    → askable m S s X ≡ true
askable_by m S s X a b e t =
    let two = and (ltb s S) (leb S sites_most) (lt-ltb s S a) (le-leb S sites_most b) in
    let room = eqb (length m) (sites_most * sites_most) in
    and (ltb s S && leb S sites_most && room) (targets S X) (and (ltb s S && leb S sites_most) room two (eq-eqb _ _ e)) t

-- of a network edition, sites, tries and routes are looked at
blocking_of : (n : Network) (s : ℕ) (x : Site) (code : ℕ)
    → blocking_at (seek_only n.edition n.sites n.tries n.routes) s x code ≡ blocking_at n s x code
unfolding blocking_at
blocking_of n s x code =
    let m = seek_only n.edition n.sites n.tries n.routes in
    let y = in_at x code in
    rw (passes_same m n s y x.outputs refl (λ a us. route_same m n refl refl s us refl y.set)) refl

-- a net-input in seek can ask; any other passes nothing on
pub blocking_asked : (n : Network) (c : List ℕ) (s : ℕ) → RunAsks n c s → length n.routes ≡ sites_most * sites_most → (code : ℕ) → code < input_count
    → passed_by n.edition n.routes n.sites n.tries s (in_at (site_in c s) code) (site_in c s).outputs ≡ blocking_at n s (site_in c s) code
blocking_asked n c s ok full code h =
    let x = site_in c s in
    let y = in_at x code in
    passes_where (seek_only n.edition n.sites n.tries n.routes) s x code (askable n.routes n.sites s y.set) h
    (λ e. askable_by n.routes n.sites s y.set ok.site ok.few full (ok.sought code h (ap state_number (seeks_at y.phase e))))
    ∙ blocking_of n s x code
