-- The value behind a turn, as contracts see it.
use Rattle.std.specs.Prelude.{◌≡◌, ℕ, List}
use Rattle.sd_model_live.specs.Port.{ProxyFacts, first_facts, AreActs}
use Rattle.sd_proxy_desk.specs.Left.{facts_left}
use Rattle.sd_proxy_desk.specs.Asks.{acts}
use Rattle.sd_proxy_desk.specs.declared.noted.Noted.{Noted}
use Rattle.sd_proxy_desk.specs.declared.noted.Setup.{Setup}

-- facts, and how many seats there are
pub record Behind : Type 0 where
  pub facts : ProxyFacts
  pub seats : ℕ

-- what is fixed of it
abbrev pub setup_of : Behind → Setup
setup_of b = record { seats = b.seats }

-- the acts of entries are a legal history
abbrev pub IsLegal : Setup → List Noted → Type 0
IsLegal setup log = AreActs first_facts (acts log)

-- the facts are those that these entries leave, which are legal
pub record Stands (b : Behind) (log : List Noted) : Type 0 where
  pub legal : IsLegal (setup_of b) log
  pub left : b.facts ≡ facts_left first_facts (acts log)
