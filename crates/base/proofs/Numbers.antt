-- The number of each refusal, as docs/MODEL.md has them, in the order of the cases. Assumes nothing.
use Rattle.std.specs.Prelude.{◌≡◌, refl, List, [], ◌∷◌, map}
use Rattle.base.specs.declared.refusal.Refusal.{Refusal}
use Rattle.base.specs.declared.refusal.Refusal.TheVariants.{Length, Version, Edition, Sizes, Seed, Count, Channels, Routes, Sends}
use Rattle.base.specs.declared.refusal.Refusal.TheVariants.{Unknown, Targets, Queue, Packets, State, Room, Back, Argument}
use Rattle.base.specs.Refusals.{number}

refusals : List Refusal
refusals =
    Length ∷ Version ∷ Edition ∷ Sizes ∷ Seed ∷ Count ∷ Channels ∷ Routes ∷ Sends ∷ Unknown ∷ Targets ∷ Queue ∷ Packets ∷ State
    ∷ Room ∷ Back ∷ Argument ∷ []

numbers_read : map number refusals
    ≡ 1 ∷ 2 ∷ 17 ∷ 3 ∷ 4 ∷ 5 ∷ 6 ∷ 7 ∷ 8 ∷ 9 ∷ 10 ∷ 11 ∷ 12 ∷ 13 ∷ 14 ∷ 15 ∷ 20 ∷ []
unfolding refusals
numbers_read = refl
