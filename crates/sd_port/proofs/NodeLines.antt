-- The lines of the reply to `nodes`, by their places.
use Rattle.std.proofs.Common.{◌≡◌, ℕ, zero, suc, ◌+◌, ◌-◌, ◌≤◌, List, [], ◌∷◌, ◌++◌, length, refl, ap, ◌∙◌, arith, length-append}
use Rattle.std.specs.Prelude.{slice_get, Some}
use Rattle.std.specs.Option.{option_map}
use Rattle.std.proofs.lemmas.Option.{slice_get_within}
use Rattle.sd_model_text.proofs.Places.{get_prefix, get_behind}
use Rattle.sd_model_settings.specs.Entries.{Node}
use Rattle.sd_model_record.specs.Replies.{end_lines}
use Rattle.sd_model_live.specs.Port.{node_health_lines}
use Rattle.sd_model_live.proofs.Short.{node_health_line}

module _ (up : ℕ) where
  -- there is a line for each node
  length-node_health_lines : (k : ℕ) (nodes : List Node) → length (node_health_lines up k nodes) ≡ length nodes
  length-node_health_lines k [] = refl
  length-node_health_lines k (n ∷ nodes) = ap suc (length-node_health_lines (k + 1) nodes)

  -- the line in a place
  get-node_health_lines : (k : ℕ) (nodes : List Node) (i : ℕ) → slice_get (node_health_lines up k nodes) i ≡ option_map (node_health_line up (k + i)) (slice_get nodes i)
  get-node_health_lines k [] i = refl
  get-node_health_lines k (n ∷ nodes) zero = (let here : k ≡ k + 0 = omega arith in ap (λ j. Some (node_health_line up j n)) here)
  get-node_health_lines k (n ∷ nodes) (suc i) =
      get-node_health_lines (k + 1) nodes i ∙ (let next : k + 1 + i ≡ k + suc i = omega arith in ap (λ j. option_map (node_health_line up j) (slice_get nodes i)) next)

  module _ (nodes : List Node) where
    -- how many lines the reply has
    pub lines-count : length (node_health_lines up 0 nodes ++ end_lines) ≡ length nodes + 2
    lines-count = omega (arith, length-append (node_health_lines up 0 nodes) end_lines, length-node_health_lines 0 nodes)

    module _ (place : ℕ) where
      -- the line of a node
      pub node_at : (node : Node) → slice_get nodes place ≡ Some node → slice_get (node_health_lines up 0 nodes ++ end_lines) place ≡ Some (node_health_line up place node)
      node_at node found =
          let same : 0 + place ≡ place = omega arith in
          get_prefix (node_health_lines up 0 nodes) end_lines place (omega (arith, length-node_health_lines 0 nodes, slice_get_within nodes place node found))
          ∙ get-node_health_lines 0 nodes place ∙ ap (λ k. option_map (node_health_line up k) (slice_get nodes place)) same
          ∙ ap (option_map (node_health_line up place)) found

      -- a line behind those of nodes
      pub end_at : length nodes ≤ place → slice_get (node_health_lines up 0 nodes ++ end_lines) place ≡ slice_get end_lines (place - length nodes)
      end_at past =
          get_behind (node_health_lines up 0 nodes) end_lines place (omega (arith, length-node_health_lines 0 nodes, past))
          ∙ ap (λ n. slice_get end_lines (place - n)) (length-node_health_lines 0 nodes)
