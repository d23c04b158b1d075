-- The example of specs/Examples.antt, by computation.
use mathlib.Core.Path.{◌≡◌, refl}
use mathlib.Core.List.{[], ◌∷◌}
use Rattle.stacks.specs.Stacks.{ok_size}
use Rattle.header.specs.Fields.{plus, announces, byte, pair, version, protocol, shortest, header_length, packet_length, next, ok_room, ok_version, ok_header, ok_length, ok_checksum, ok_whole}
use Rattle.header.specs.Answers.{header_refusal}
use Rattle.headers.specs.Chains.{found, refused, reading_of}
use Rattle.headers.specs.Examples.{four_in_six, wrong_checksum}

pub example : (reading_of 12 four_in_six ≡ found (0 ∷ 1 ∷ []) 60 64) × (reading_of 12 wrong_checksum ≡ refused 65 1 40)
    × (reading_of 1 four_in_six ≡ refused 67 1 40)
unfolding plus announces byte pair version protocol shortest header_length packet_length next ok_room ok_version ok_header ok_length ok_checksum ok_whole
    header_refusal ok_size reading_of
example = (refl, refl, refl)
