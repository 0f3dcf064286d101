-- News that is kept of a history: its entries from a place on. The rules are this project's own.
use Rattle.std.specs.Prelude.{◌≡◌, ◌≤◌, ℕ, List, [], ◌++◌, length, drop, Option, Some, None}
use Rattle.std.specs.Option.{option_map}
use Rattle.marc_types.specs.declared.entry.Entry.{Entry}

-- so many entries stand before these
pub record KeptNews : Type 0 where
  pub start : ℕ
  pub entries : List Entry

-- with more behind them
abbrev pub and_entries : List Entry → KeptNews → KeptNews
and_entries more news = record { start = news.start; entries = news.entries ++ more }

-- where it starts, if it is kept
abbrev pub start_of : Option KeptNews → Option ℕ
start_of news = option_map (λ n. n.start) news

-- what is kept already, or news of no entry yet, which begins behind so many
abbrev pub kept_or_begun : Option KeptNews → ℕ → KeptNews
kept_or_begun (Some news) start = news
kept_or_begun None start = record { start = start; entries = [] }

-- these are the history's entries from that place on
pub record IsNewsOf (history : List Entry) (news : KeptNews) : Type 0 where
  pub begins : news.start ≤ length history
  pub entries : news.entries ≡ drop news.start history

-- so many entries are cut off again, whatever they are
abbrev pub CutsNews : Option KeptNews → ℕ → Option KeptNews → Type 0
CutsNews old count new = (before : Option KeptNews) (entries : List Entry) → old ≡ option_map (and_entries entries) before → length entries ≡ count → new ≡ before
