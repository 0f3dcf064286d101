-- What the console is told of a journal that was salvaged. The lines are this project's own.
use Rattle.std.specs.Prelude.{ℕ, zero, suc, List, [], ◌++◌, length, codes}
use Rattle.std.specs.List.{flat_map}
use Rattle.std.specs.Fmt.{decimal}
use Rattle.sound_frames.specs.declared.damage.Damage.{Damage}
use Rattle.sound_frames.specs.declared.damage.Reason.{Reason}
use Rattle.sound_frames.specs.declared.damage.Reason.TheVariants.{WrongHeader, ClosedGate, Torn, Lost, NoFrame, NotValid}
use Rattle.sound_frames.specs.Sound.{SoundPart, left_out}

-- the words of a damage
abbrev pub reason_words : Reason → List ℕ
reason_words WrongHeader = codes "wrong header"
reason_words ClosedGate = codes "closed gate"
reason_words Torn = codes "torn behind it"
reason_words Lost = codes "more behind it than a crash leaves"
reason_words NoFrame = codes "no whole frame"
reason_words NotValid = codes "payload not valid"

-- the line of a damage
unfoldable pub damage_line : Damage → List ℕ
damage_line damage = codes "damage at " ++ decimal damage.place ++ codes ": " ++ reason_words damage.reason ++ codes "\n"

-- the line of the bytes that stand behind the place at which reading ended, where there are any
abbrev pub left_line : ℕ → ℕ → List ℕ
left_line zero end = []
left_line (suc n) end = codes "left out " ++ decimal (suc n) ++ codes " bytes behind byte " ++ decimal end ++ codes "\n"

-- the line of so many entries
abbrev pub count_line : ℕ → List ℕ
count_line count = codes "salvaged " ++ decimal count ++ codes " entries\n"

-- how many entries, each damage, and how many bytes are left out
abbrev pub salvaged_lines : List ℕ → SoundPart → List ℕ
salvaged_lines log all =
    count_line (length all.entries) ++ flat_map damage_line all.damages ++ left_line (left_out log all) all.end
