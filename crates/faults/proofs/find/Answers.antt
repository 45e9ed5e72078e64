-- `find` meets its contract, one law of Judged for each way. Assumes nothing.
use Rattle.std.proofs.Common.{◌≡◌, ◌+◌, ◌∙◌, ℕ, List, refl, sym, ap, arith}
use borrow.Author.Tests.{eqb-false}
use Rattle.base.specs.Refusals.{number_some}
use Rattle.format.specs.Format.{at, sites_place, version_of, count_of}
use Rattle.format.specs.Refusals.{head_then}
use Rattle.faults.specs.Head.{Head, Read}
use Rattle.faults.proofs.HeadLaws.{head_passes}
use Rattle.faults.proofs.Versions.{edition_small}
use Rattle.faults.proofs.Judged.{at_head, at_channel, channels_good, at_route, routes_good, at_send, at_nothing}
use Rattle.faults.proofs.find.Goals as goal

-- the head is not refused
module _ (b : List ℕ) (passed : 0 ≡ head_then b 0) where
  headed : Head b
  headed = (head_passes _ 0 (sym passed)).0

  -- S read at place p
  measured : (p S : ℕ) → p ≡ sites_place (version_of b) → S ≡ at b p → Read b (version_of b) S
  measured p S place read = record { head = headed; version = refl; sites = read ∙ ap (at b) place }

-- N read nine bytes behind it
counted : (b : List ℕ) (p N : ℕ) → p ≡ sites_place (version_of b) → N ≡ at b (p + 9) → N ≡ count_of b
counted b p N place read = read ∙ ap (at b) (omega (arith, place))

pub returns-in-Err : goal.returns-in-Err
returns-in-Err c = at_head _ _ c.in-Err.ensures (eqb-false _ 0 (number_some c.in-Err.refusal))

pub bounds-bytes-2 : goal.bounds-bytes-2
bounds-bytes-2 c = omega (arith, (headed _ c.in_default.ensures).enough)

pub bounds-bytes-p : goal.bounds-bytes-p
bounds-bytes-p c = omega (arith, c.fields_place-p.ensures, (headed _ c.in_default.ensures).enough)

pub first_channel-requires : goal.first_channel-requires
first_channel-requires c = measured _ c.in_default.ensures _ _ c.fields_place-p.ensures c.wide-sites.ensures.0

pub returns-in-Some : goal.returns-in-Some
returns-in-Some c =
    let r = measured _ c.in_default.ensures _ _ c.fields_place-p.ensures c.wide-sites.ensures.0 in
    at_channel _ (sym c.in_default.ensures) _ r.sites _ c.in-Some.ensures

pub first_route-requires : goal.first_route-requires
first_route-requires c = measured _ c.in_default.ensures _ _ c.fields_place-p.ensures c.wide-sites.ensures.0

pub returns-in-Some-first_route : goal.returns-in-Some-first_route
returns-in-Some-first_route c =
    let g = sym c.in_default.ensures in
    let r = measured _ c.in_default.ensures _ _ c.fields_place-p.ensures c.wide-sites.ensures.0 in
    let cs = channels_good _ g _ r.sites c.in_default-first_channel.ensures in
    at_route _ g _ r.sites cs _ c.in-Some-first_route.ensures

pub overflow_add-p : goal.overflow_add-p
overflow_add-p c = omega (arith, c.fields_place-p.ensures, edition_small (version_of c.args.bytes.now))

pub bounds-bytes-p-2 : goal.bounds-bytes-p-2
bounds-bytes-p-2 c = omega (arith, c.fields_place-p.ensures, (headed _ c.in_default.ensures).enough)

pub first_send-requires : goal.first_send-requires
first_send-requires c = (
  measured _ c.in_default.ensures _ _ c.fields_place-p.ensures c.wide-sites.ensures.0,
  counted _ _ _ c.fields_place-p.ensures c.wide-sends.ensures.0,
  c.wide-sends.ensures.1,
)

pub returns-in-Some-first_send : goal.returns-in-Some-first_send
returns-in-Some-first_send c =
    let g = sym c.in_default.ensures in
    let r = measured _ c.in_default.ensures _ _ c.fields_place-p.ensures c.wide-sites.ensures.0 in
    let cs = channels_good _ g _ r.sites c.in_default-first_channel.ensures in
    let rs = routes_good _ g _ r.sites cs c.in_default-first_route.ensures in
    at_send _ g _ r.sites cs rs _ (counted _ _ _ c.fields_place-p.ensures c.wide-sends.ensures.0) _ c.in-Some-first_send.ensures

pub returns : goal.returns
returns c =
    let g = sym c.in_default.ensures in
    let r = measured _ c.in_default.ensures _ _ c.fields_place-p.ensures c.wide-sites.ensures.0 in
    let cs = channels_good _ g _ r.sites c.in_default-first_channel.ensures in
    let rs = routes_good _ g _ r.sites cs c.in_default-first_route.ensures in
    at_nothing _ g _ r.sites cs rs _ (counted _ _ _ c.fields_place-p.ensures c.wide-sends.ensures.0) c.in_default-first_send.ensures
