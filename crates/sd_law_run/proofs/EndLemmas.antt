-- Where `END` stands among the lines of a reply.
use Rattle.std.proofs.Common.{◌≡◌, ℕ, ◌+◌, ◌==◌, ◌&&◌, ◌||◌, Bool, true, false, if◌then◌else◌, List, [], ◌∷◌, ◌++◌, map, flat_map, refl, sym, ap, ◌∙◌, append-nil, append_assoc, Result, Ok, Err}
use Rattle.std.specs.Prelude.{codes}
use Rattle.std.specs.List.{AllByRecursion, list_all}
use Rattle.std.proofs.lemmas.List.Concat.{flat_map-append}
use Rattle.std.proofs.lemmas.List.Folds.{list_any-append}
use Rattle.sd_law_text.specs.Bytes.{has_byte}
use Rattle.sd_model_text.specs.Names.{Kind}
use Rattle.sd_model_settings.specs.Settings as file
use Rattle.sd_model_settings.specs.ConfigText.{config_line, config_lines, back_lines, first_lines}
use Rattle.sd_model_shard.specs.Rows.{DumpRow}
use Rattle.sd_model_shard.specs.Shard as shard
use Rattle.sd_model_shard.specs.Shard.{Numbers}
use Rattle.sd_model_record.specs.Admin as admin
use Rattle.sd_model_record.specs.Admin.{AdminFault, UnknownWord, MissingName, TooLong}
use Rattle.sd_model_record.specs.Desk.{Facts}
use Rattle.sd_model_record.specs.Totals.{known_before_end, total_line, totals_of}
use Rattle.sd_model_record.specs.Replies.{Finish, end_lines, stats_lines, shard_lines, shown_value, gone_lines, fault_line, reply_lines, replies_by, names_replied, health_after}
use Rattle.sd_model_settings.proofs.Short.{entry_lines, histogram_line, repeater_line, node_line}
use Rattle.sd_model_record.proofs.Short.{health_line, row_line, numbers_reported, added, shard_line, keys_reported, rows_reported, totals_lines}

-- a line isn't `END`
abbrev IsOther : List ℕ → Type 0
IsOther text = text ≡ codes "END\n" → ⊥

abbrev AreOthers : List (List ℕ) → Type 0
AreOthers lines = AllByRecursion IsOther lines

-- a line with a byte that `END` doesn't have
by_byte : (byte : ℕ) (text : List ℕ) → has_byte byte text ≡ true → has_byte byte (codes "END\n") ≡ false → IsOther text
by_byte byte text there absent same = absurd (bool_clash (sym there ∙ (ap (has_byte byte) same ∙ absent)))
  where
    bool_clash : true ≡ false → ⊥
    bool_clash h = absurd (cc)

colon_behind : (name rest : List ℕ) → has_byte 58 (name ++ 58 ∷ rest) ≡ true
colon_behind [] rest = refl
colon_behind (b ∷ name) rest = or_true (b == 58) (has_byte 58 (name ++ 58 ∷ rest)) (colon_behind name rest)
  where
    or_true : (x y : Bool) → y ≡ true → (x || y) ≡ true
    or_true true y h = refl
    or_true false y h = h

-- what has a colon behind a name
of_line : (name value : List ℕ) → IsOther (config_line name value)
of_line name value =
    by_byte 58 (config_line name value)
    (list_any-append (λ x. x == 58) (name ++ 58 ∷ 32 ∷ value) (10 ∷ []) ∙ ap (λ b. b || has_byte 58 (10 ∷ [])) (colon_behind name (32 ∷ value)))
    refl

and_true : (x y : Bool) → (x && y) ≡ true → (x ≡ true) × (y ≡ true)
and_true true y h = (refl, h)
and_true false y h = absurd (cc)

-- lines that each have a byte that `END` doesn't have
with_bytes : (byte : ℕ) → has_byte byte (codes "END\n") ≡ false → (lines : List (List ℕ)) → list_all (has_byte byte) lines ≡ true → AreOthers lines
with_bytes byte absent [] h = tt
with_bytes byte absent (l ∷ lines) h = (by_byte byte l both.0 absent, with_bytes byte absent lines both.1)
  where
    both : (has_byte byte l ≡ true) × (list_all (has_byte byte) lines ≡ true)
    both = and_true (has_byte byte l) (list_all (has_byte byte) lines) h

-- lines that each have a colon
with_colons : (lines : List (List ℕ)) → list_all (has_byte 58) lines ≡ true → AreOthers lines
with_colons = with_bytes 58 refl

others-append : (xs ys : List (List ℕ)) → AreOthers xs → AreOthers ys → AreOthers (xs ++ ys)
others-append [] ys first second = second
others-append (x ∷ xs) ys first second = (first.0, others-append xs ys first.1 second)

others-map : {X : Type 0} (text : X → List ℕ) → ((x : X) → IsOther (text x)) → (xs : List X) → AreOthers (map text xs)
others-map text other [] = tt
others-map text other (x ∷ xs) = (other x, others-map text other xs)

-- where no line is `END`, it stands nowhere
stands_nowhere : (lines prefix back : List (List ℕ)) → AreOthers lines → lines ≡ prefix ++ codes "END\n" ∷ back → ⊥
stands_nowhere [] [] back others same = absurd (cc)
stands_nowhere [] (f ∷ prefix) back others same = absurd (cc)
stands_nowhere (l ∷ lines) [] back others same = others.0 (cc)
stands_nowhere (l ∷ lines) (f ∷ prefix) back others same = stands_nowhere lines prefix back others.1 (cc)

empty_line : IsOther (codes "\n")
empty_line same = absurd (bool_clash (ap (has_byte 69) same))
  where
    bool_clash : false ≡ true → ⊥
    bool_clash h = absurd (cc)

-- where no line before the end is `END`, the one at the end has the empty line alone behind it
stands_last : (lines prefix back : List (List ℕ)) → AreOthers lines → lines ++ end_lines ≡ prefix ++ codes "END\n" ∷ back → back ≡ codes "\n" ∷ []
stands_last [] [] back others same = cc
stands_last [] (f ∷ prefix) back others same = absurd (stands_nowhere (codes "\n" ∷ []) prefix back (empty_line, tt) (cc))
stands_last (l ∷ lines) [] back others same = absurd (others.0 (cc))
stands_last (l ∷ lines) (f ∷ prefix) back others same = stands_last lines prefix back others.1 (cc)

abbrev StandsLast : List (List ℕ) → Type 0
StandsLast lines = (prefix back : List (List ℕ)) → lines ≡ prefix ++ codes "END\n" ∷ back → back ≡ codes "\n" ∷ []

-- a reply with an end, alone
with_end : (lines : List (List ℕ)) → AreOthers lines → StandsLast ((lines ++ end_lines) ++ [])
with_end lines others prefix back same = stands_last lines prefix back others (sym (append-nil (lines ++ end_lines)) ∙ same)

-- a reply of one line
without_end : (text : List ℕ) → IsOther text → StandsLast ((text ∷ []) ++ [])
without_end text other prefix back same = absurd (stands_nowhere (text ∷ []) prefix back (other, tt) same)

others_of_gone : (name : List ℕ) (keys : List (List ℕ)) → AreOthers (gone_lines name keys)
others_of_gone name [] = (by_byte 109 (codes "metric " ++ name ++ codes " not found" ++ 10 ∷ []) refl refl, tt)
others_of_gone name (key ∷ keys) = others-map (config_line (codes "deleted")) (of_line (codes "deleted")) (key ∷ keys)

others_of_names : (answers : ℕ → List shard.Reply) (names : List (List ℕ)) → AreOthers (flat_map reply_lines (names_replied answers names))
others_of_names answers [] = tt
others_of_names answers (name ∷ names) =
    others-append (gone_lines name (keys_reported (answers 0))) (flat_map reply_lines (names_replied (λ n. answers (n + 1)) names))
    (others_of_gone name (keys_reported (answers 0))) (others_of_names (λ n. answers (n + 1)) names)

others_of_row : (kind : Kind) (row : DumpRow) → IsOther (row_line kind row)
others_of_row kind row = of_line row.key (shown_value kind row)

others_of_entries : (s : file.Settings) → AreOthers (entry_lines s)
others_of_entries s =
    let histograms = map (histogram_line (codes "histogram")) s.lists.histogram in
    let targets = map (repeater_line (codes "repeater")) s.lists.repeater in
    let nodes = map (node_line (codes "nodes")) s.lists.nodes in
    others-append histograms (targets ++ (nodes ++ []))
    (others-map (histogram_line (codes "histogram")) (λ c. by_byte 58 (histogram_line (codes "histogram") c) refl refl) s.lists.histogram)
    (others-append targets (nodes ++ []) (others-map (repeater_line (codes "repeater")) (λ t. by_byte 58 (repeater_line (codes "repeater") t) refl refl) s.lists.repeater)
    (others-append nodes [] (others-map (node_line (codes "nodes")) (λ n. by_byte 58 (node_line (codes "nodes") n) refl refl) s.lists.nodes) tt))

others_of_stats : (facts : Facts) (now : ℕ) → AreOthers (stats_lines facts now)
others_of_stats facts now = with_colons (stats_lines facts now) refl

others_of_shards : (i : ℕ) (shards : List Numbers) → AreOthers (shard_lines i shards)
others_of_shards i [] = tt
others_of_shards i (n ∷ shards) = (by_byte 32 (shard_line i n) refl refl, others_of_shards (i + 1) shards)

others_of_totals : (outlets : Bool) (facts : Facts) (shards : List Numbers) → AreOthers (totals_lines outlets facts shards)
others_of_totals true facts shards =
    let totals = map total_line (known_before_end true (totals_of (added shards) facts)) in
    others-append totals (shard_lines 0 shards) (with_bytes 32 refl totals refl) (others_of_shards 0 shards)
others_of_totals false facts shards =
    let totals = map total_line (totals_of (added shards) facts) in
    others-append totals (shard_lines 0 shards) (with_bytes 32 refl totals refl) (others_of_shards 0 shards)

of_names : (answers : ℕ → List shard.Reply) (names : List (List ℕ)) → StandsLast (flat_map reply_lines (names_replied answers names ++ Finish ∷ []))
of_names answers names prefix back same =
    with_end (flat_map reply_lines (names_replied answers names)) (others_of_names answers names) prefix back
    (append_assoc (flat_map reply_lines (names_replied answers names)) end_lines [] ∙ (sym (flat_map-append reply_lines (names_replied answers names) (Finish ∷ [])) ∙ same))

others_of_config : (s : file.Settings) → AreOthers (config_lines s)
others_of_config s =
    others-append (first_lines s ++ entry_lines s) (back_lines s)
    (others-append (first_lines s) (entry_lines s) (with_colons (first_lines s) refl) (others_of_entries s))
    (with_colons (back_lines s) refl)

others_of_fault : (fault : AdminFault) → IsOther (fault_line fault)
others_of_fault fault = by_byte 82 (fault_line fault) refl refl

-- behind `END` the empty line stands alone, whatever is replied to a line
pub ends-last : (outlets : Bool) (answers : ℕ → List shard.Reply) (facts : Facts) (settings : file.Settings) (now : ℕ) (asked : Result admin.Command AdminFault) → StandsLast (flat_map reply_lines (replies_by outlets answers facts settings now asked))
ends-last outlets answers facts settings now (Ok admin.Stats) = with_end (stats_lines facts now) (others_of_stats facts now)
ends-last outlets answers facts settings now (Ok admin.Totals) = with_end (totals_lines outlets facts (numbers_reported (answers 0))) (others_of_totals outlets facts (numbers_reported (answers 0)))
ends-last outlets answers facts settings now (Ok admin.Config) = with_end (config_lines settings) (others_of_config settings)
ends-last outlets answers facts settings now (Ok admin.Quit) = λ prefix back same. absurd (stands_nowhere [] prefix back tt same)
ends-last outlets answers facts settings now (Ok (admin.Show kind)) =
    with_end (map (row_line kind) (rows_reported (answers 0))) (others-map (row_line kind) (others_of_row kind) (rows_reported (answers 0)))
ends-last outlets answers facts settings now (Ok (admin.Delete kind names)) = of_names answers names
ends-last outlets answers facts settings now (Ok (admin.Health word)) = without_end (health_line (health_after word facts.up)) (of_line (codes "health") (if health_after word facts.up then codes "up" else codes "down"))
ends-last outlets answers facts settings now (Err fault) = without_end (fault_line fault) (others_of_fault fault)
