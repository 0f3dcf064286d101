-- What the candidates for a form are.
use Rattle.std.specs.Prelude.{◌≢◌, ℕ, []}
use Rattle.form_index.specs.Index.{Indexed, IsBlankScan, IsScan}
use Rattle.form_index.specs.declared.among.Among.{Among}
use Rattle.form_index.specs.declared.among.By.TheVariants as by
use Rattle.form_index.specs.declared.candidates.Candidates.{Candidates}
use Rattle.form_index.specs.declared.candidates.Candidates.TheVariants.{Established, SeeFrom, Nobody}

-- the rows with this established form; where there is none, those with it as a see-from form; where there is none, nobody
abbrev pub IsAnswer : Among → ℕ → Indexed → Candidates → Type 0
IsAnswer among form x (Established numbers) = IsScan among by.Established form x numbers.now × (numbers.now ≢ [])
IsAnswer among form x (SeeFrom numbers) = IsBlankScan among by.Established form x × IsScan among by.SeeFrom form x numbers.now × (numbers.now ≢ [])
IsAnswer among form x Nobody = IsBlankScan among by.Established form x × IsBlankScan among by.SeeFrom form x
