-- Uncontended latency: document 02, L14, after source document 001, section 2, whose phrases are quoted where no other paper is
-- named. t is the bits of a target, L those of the data, D the channels that a packet traverses, n its targets, W the bits of a
-- channel: they are not the model's T and D. Every value is doubled, so that the halves of 001 are whole. Assumes nothing.
use Rattle.std.specs.Prelude.{Bool, cond, ◌&&◌, ℕ, ◌+◌, ◌-◌, ◌*◌, ◌/◌, ◌%◌, eqb, leb, Result, Ok, Err}
use Rattle.base.specs.declared.refusal.Refusal.{Refusal}
use Rattle.base.specs.Refusals.{number}
use Rattle.latency.specs.declared.Latencies.{Latencies as Four}

-- L14: "whole t, L, D, n and W of 1 to 65,535"
abbrev pub argument_most : ℕ
argument_most = 65535

abbrev pub argument_ok : ℕ → Bool
argument_ok x = leb 1 x && leb x argument_most

abbrev pub arguments_ok : ℕ → ℕ → ℕ → ℕ → ℕ → Bool
arguments_ok t L D n W = argument_ok t && argument_ok L && argument_ok D && argument_ok n && argument_ok W

-- L14: "ceiling(t / W)": the whole quotient, and one more where a rest is left
unfoldable pub ceiling : ℕ → ℕ → ℕ
ceiling x W = cond (eqb (x % W) 0) (x / W) (x / W + 1)

-- ---- the four, doubled, with a for ⌈t/W⌉ and b for ⌈L/W⌉

-- "T = ⌈t/W⌉ D + ⌈L/W⌉"
unfoldable pub twice_unicast : ℕ → ℕ → ℕ → ℕ
twice_unicast a b D = 2 * a * D + 2 * b

-- "T_MU = ⌈t/W⌉ D + ⌈L/W⌉ + (n-1)/2 ⌈t/W⌉ + (n-1)/2 ⌈L/W⌉"
unfoldable pub twice_multi : ℕ → ℕ → ℕ → ℕ → ℕ
twice_multi a b D n = 2 * a * D + 2 * b + (n - 1) * a + (n - 1) * b

-- "T_RM = ⌈t/W⌉ D + ⌈L/W⌉ + (n-1) ⌈t/W⌉"
unfoldable pub twice_resumable : ℕ → ℕ → ℕ → ℕ → ℕ
twice_resumable a b D n = 2 * a * D + 2 * b + 2 * (n - 1) * a

-- "T_RBM = .. = ⌈t/W⌉ D + ⌈L/W⌉ + (n-1)/2 ⌈t/W⌉ + (n-1)/2 ⌈t/W⌉ D"
unfoldable pub twice_restricted : ℕ → ℕ → ℕ → ℕ → ℕ
twice_restricted a b D n = 2 * a * D + 2 * b + (n - 1) * a + (n - 1) * a * D

-- "Refusals: 20 for an argument outside its range."; document 01: "A refusal's other numbers are zero."
pub record Latencies : Type 0 where
  pub refusal : ℕ
  pub unicast : ℕ
  pub multi : ℕ
  pub resumable : ℕ
  pub restricted : ℕ

unfoldable pub by_cycles : ℕ → ℕ → ℕ → ℕ → Latencies
by_cycles a b D n =
    record {
      refusal = 0;
      unicast = twice_unicast a b D;
      multi = twice_multi a b D n;
      resumable = twice_resumable a b D n;
      restricted = twice_restricted a b D n;
    }

-- ---- the answer

abbrev pub outside : Latencies
outside = record { refusal = 20; unicast = 0; multi = 0; resumable = 0; restricted = 0 }

-- L14: "Give T and the multi-unicast, resumable and restricted averages, doubled"
unfoldable pub latencies : ℕ → ℕ → ℕ → ℕ → ℕ → Latencies
latencies t L D n W = cond (arguments_ok t L D n W) (by_cycles (ceiling t W) (ceiling L W) D n) outside

-- an answer of the code in these numbers
abbrev pub told : Result Four Refusal → Latencies
told (Ok f) =
    record { refusal = 0; unicast = f.unicast; multi = f.multi; resumable = f.resumable; restricted = f.restricted }
told (Err e) = record { refusal = number e; unicast = 0; multi = 0; resumable = 0; restricted = 0 }
