-- Document 01, "Network and state", with document 02's L4: channels, route lists, and which networks are valid, as the refusal
-- number 2, 17, 3, 6, 7 or none.
use Rattle.std.specs.Prelude.{ℕ, zero, suc, ◌+◌, ◌-◌, ◌*◌, ◌/◌, ◌%◌, List, [], ◌∷◌, Bool, cond, not, ◌&&◌, ◌||◌, eqb, ltb, leb, get_or, replicate}
use Rattle.base.specs.Sizes.{sites_most, first_sites, port_count, queue_room, no_channel}
use Rattle.base.specs.Bools.{implies}
use Rattle.base.specs.All.{all}
use Rattle.base.specs.Over.{over}
use Rattle.draws.specs.Draws.{restricted}
use Rattle.model.specs.Types.{Network}

-- "per site and port 1..4 a channel .., else 4 x site + port - 1 of the input", in memory "65535 for none": that of port j of
-- site s; "port 0 is local" and has none
abbrev pub channel_at : Network → ℕ → ℕ
channel_at n m = get_or n.channels m 0

abbrev pub channel : Network → ℕ → ℕ → ℕ
channel n s zero = no_channel
channel n s (suc j) = channel_at n (port_count * s + j)

-- whether there is a channel, and whether port j of site s has one
abbrev pub is_channel : ℕ → Bool
is_channel b = not (eqb b no_channel)

abbrev pub joined : Network → ℕ → ℕ → Bool
joined n s j = is_channel (channel n s j)

-- the site at a channel's end, and the input's port there
abbrev pub end_site : ℕ → ℕ
end_site b = b / port_count

abbrev pub end_port : ℕ → ℕ
end_port b = suc (b % port_count)

-- "for each from-site and to-site a 2-byte route, four hex digits, the first choice highest"
abbrev pub route_of : Network → ℕ → ℕ → ℕ
route_of n s t = get_or n.routes (s * n.sites + t) 0

abbrev pub choices : ℕ → List ℕ
choices route = route / 4096 ∷ route / 256 % 16 ∷ route / 16 % 16 ∷ route % 16 ∷ []

abbrev pub list_of : Network → ℕ → ℕ → List ℕ
list_of n s t = choices (route_of n s t)

-- L4: "2 means neither 1 nor 2"
abbrev pub version_ok : Network → Bool
version_ok n = eqb n.version 1 || eqb n.version 2

-- L4: "17, an edition unknown or not 1 in version 1"; L6: "17 accepts edition 2"; L10: "17 accepts edition 3": which editions a
-- version has
abbrev pub edition_in : ℕ → ℕ → Bool
edition_in version edition = eqb edition 1 || (eqb edition 2 || eqb edition 3) && eqb version 2

abbrev pub edition_ok : Network → Bool
edition_ok n = edition_in n.version n.edition

-- L6: "Edition 2 follows the report for channels 1 to 4"; L10: "channels close as in edition 2": whether an output holds its
-- channel after delivery
abbrev pub holds : ℕ → Bool
holds edition = eqb edition 2 || restricted edition

-- L4: "both precede 3": 2, 17, or what comes after them
abbrev pub kind_then : Network → ℕ → ℕ
kind_then n next = cond (version_ok n) (cond (edition_ok n) next 17) 2

-- "S sites, 1 to 16", L4: "Version 1 keeps its 16 sites", "3 allows 64 sites in version 2": the sites of a version at most
abbrev pub sites_in : ℕ → ℕ
sites_in version = cond (eqb version 1) first_sites sites_most

-- "S sites, 1 to 16", or 64; "T, 1 to 255" (a byte: at most 255); "D, 1 to 8"
abbrev pub sizes_ok : Network → Bool
sizes_ok n =
    leb 1 n.sites
    && leb n.sites (sites_in n.version)
    && leb 1 n.tries
    && leb 1 n.depth
    && leb n.depth queue_room

-- "channel byte neither 255 nor below 4S, or an input fed twice" is what is turned down, 65535 for 255 in memory
abbrev pub channel_ok : Network → ℕ → Bool
channel_ok n m =
    eqb (channel_at n m) no_channel
    || ltb (channel_at n m) (port_count * n.sites)
    && all (λ m'. not (eqb (channel_at n m') (channel_at n m))) m

abbrev pub channels_ok : Network → Bool
channels_ok n = all (channel_ok n) (port_count * n.sites)

-- "one to four different ports with channels"; "zeros only after the last port". choice m of the list l
abbrev pub choice : List ℕ → ℕ → ℕ
choice l m = get_or l m 0

abbrev pub port_ok : Network → ℕ → ℕ → Bool
port_ok n s j = eqb j 0 || leb j port_count && joined n s j

abbrev pub differs : List ℕ → ℕ → Bool
differs l m = eqb (choice l m) 0 || all (λ m'. not (eqb (choice l m') (choice l m))) m

abbrev pub list_ok : Network → ℕ → List ℕ → Bool
list_ok n s l =
    not (eqb (choice l 0) 0)
    && all (λ m. port_ok n s (choice l m)) port_count
    && all (λ m. implies (eqb (choice l m) 0) (eqb (choice l (m + 1)) 0)) (port_count - 1)
    && all (differs l) port_count

-- "For each ordered pair of different sites a route list"; "all zero from a site to itself"
abbrev pub route_ok : Network → ℕ → ℕ → Bool
route_ok n s t = eqb s t && eqb (route_of n s t) 0 || not (eqb s t) && list_ok n s (list_of n s t)

abbrev pub routes_ok : Network → Bool
routes_ok n = all (λ s. all (route_ok n s) n.sites) n.sites

-- "6: channel byte neither 255 nor below 4S, or an input fed twice"; "7: a route not as described"; or what comes after them
abbrev pub joins_then : Network → ℕ → ℕ
joins_then n next = cond (channels_ok n) (cond (routes_ok n) next 7) 6

-- 2; 17; "3: S, T or D outside its limits"; 6; 7; 0 for a valid network
unfoldable pub network_refusal : Network → ℕ
network_refusal n = kind_then n (cond (sizes_ok n) (joins_then n 0) 3)

-- "Room beyond S sites .. belongs to no network ..: it is not looked at": a network with that room at zero, of which every test
-- and every event says the same
abbrev pub no_channels : List ℕ
no_channels = replicate (port_count * sites_most) 0

abbrev pub no_routes : List ℕ
no_routes = replicate (sites_most * sites_most) 0

unfoldable pub trimmed_network : Network → Network
trimmed_network n =
    record {
      sites = n.sites;
      depth = n.depth;
      tries = n.tries;
      version = n.version;
      edition = n.edition;
      channels = over (channel_at n) (port_count * n.sites) no_channels;
      routes = over (λ m. get_or n.routes m 0) (n.sites * n.sites) no_routes;
    }

-- L6: the same network, to go by the rules of edition e
unfoldable pub by_edition : ℕ → Network → Network
by_edition e n =
    record {
      sites = n.sites;
      depth = n.depth;
      tries = n.tries;
      version = n.version;
      edition = e;
      channels = n.channels;
      routes = n.routes;
    }

-- L5: the same network, to be stored in version v
unfoldable pub network_under : ℕ → Network → Network
network_under v n =
    record {
      sites = n.sites;
      depth = n.depth;
      tries = n.tries;
      version = v;
      edition = n.edition;
      channels = n.channels;
      routes = n.routes;
    }
