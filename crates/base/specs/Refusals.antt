-- A refusal's number, and what an answer is in such numbers: 0, or that of its refusal. Assumes nothing.
use Rattle.std.specs.Prelude.{◌≡◌, refl, false, cond, ℕ, eqb, Option, Some, None, Result, Ok, Err}
use borrow.Author.Tests.{eqb-false}
use Rattle.base.specs.declared.refusal.Refusal.{Refusal}
use Rattle.base.specs.declared.refusal.Refusal.TheVariants.{Length, Version, Edition, Sizes, Seed, Count, Channels, Routes, Sends}
use Rattle.base.specs.declared.refusal.Refusal.TheVariants.{Unknown, Targets, Queue, Packets, State, Room, Back, Argument}

abbrev pub number : Refusal → ℕ
number Length = 1
number Version = 2
number Edition = 17
number Sizes = 3
number Seed = 4
number Count = 5
number Channels = 6
number Routes = 7
number Sends = 8
number Unknown = 9
number Targets = 10
number Queue = 11
number Packets = 12
number State = 13
number Room = 14
number Back = 15
number Argument = 20

abbrev pub refusal_of : {A : Type 0} → Result A Refusal → ℕ
refusal_of (Ok x) = 0
refusal_of (Err e) = number e

abbrev pub number_of : Option Refusal → ℕ
number_of None = 0
number_of (Some e) = number e

-- no refusal has the number of none
pub number_some : (e : Refusal) → eqb (number e) 0 ≡ false
number_some Length = refl
number_some Version = refl
number_some Edition = refl
number_some Sizes = refl
number_some Seed = refl
number_some Count = refl
number_some Channels = refl
number_some Routes = refl
number_some Sends = refl
number_some Unknown = refl
number_some Targets = refl
number_some Queue = refl
number_some Packets = refl
number_some State = refl
number_some Room = refl
number_some Back = refl
number_some Argument = refl

-- the refusal of a number
abbrev pub of_number : ℕ → Refusal
of_number n =
    cond (eqb n 1) Length (cond (eqb n 2) Version (cond (eqb n 17) Edition (cond (eqb n 3) Sizes (cond (eqb n 4) Seed
    (cond (eqb n 5) Count (cond (eqb n 6) Channels (cond (eqb n 7) Routes (cond (eqb n 8) Sends (cond (eqb n 9) Unknown
    (cond (eqb n 10) Targets (cond (eqb n 11) Queue (cond (eqb n 12) Packets (cond (eqb n 13) State (cond (eqb n 14) Room
    (cond (eqb n 15) Back Argument)))))))))))))))

pub numbered : (e : Refusal) → of_number (number e) ≡ e
numbered Length = refl
numbered Version = refl
numbered Edition = refl
numbered Sizes = refl
numbered Seed = refl
numbered Count = refl
numbered Channels = refl
numbered Routes = refl
numbered Sends = refl
numbered Unknown = refl
numbered Targets = refl
numbered Queue = refl
numbered Packets = refl
numbered State = refl
numbered Room = refl
numbered Back = refl
numbered Argument = refl

pub number_nonzero : (e : Refusal) → number e ≡ 0 → ⊥
number_nonzero e = eqb-false (number e) 0 (number_some e)
