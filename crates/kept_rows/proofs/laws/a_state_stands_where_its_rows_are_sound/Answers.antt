use Rattle.kept_rows.proofs.Sounds.{sound_stands, standing_is_sound}
use Rattle.kept_rows.proofs.laws.a_state_stands_where_its_rows_are_sound.Goals as goal

pub returns : goal.returns
returns c = λ s. (standing_is_sound s, sound_stands s)
