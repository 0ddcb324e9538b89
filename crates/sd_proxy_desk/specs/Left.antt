-- The facts that a history leaves.
use Rattle.std.specs.Prelude.{List, [], ◌∷◌}
use Rattle.sd_model_live.specs.Port.{ProxyAct, ProxyFacts, facts_after}

-- the facts after acts
abbrev pub facts_left : ProxyFacts → List ProxyAct → ProxyFacts
facts_left f [] = f
facts_left f (a ∷ acts) = facts_left (facts_after f a.event) acts
