-- What stands at the start of the bytes ahead is read.
use Rattle.std.proofs.Common.{◌≡◌, ℕ, ◌+◌, List, ◌∷◌, ◌++◌, Option, None, Some, length, drop, sym, ap, subst, refl, ◌∙◌, arith, length-append, length-drop}
use Rattle.std.specs.Prelude.{min, option_map, IfSome}
use Rattle.std.specs.Option.{option_map_or}
use Rattle.sd_model_outside.specs.Outside.{Content, last_count, put_back}
use Rattle.sd_model_outside.proofs.OutsideLemmas.{put_back-append}
use Rattle.sd_model_replay.specs.Script as model
use Rattle.sd_model_replay.specs.Script.{PacketHead, FlushHead, AdminHead, EndHead, Body, head_line, body_of, IsForm, Next}
use Rattle.sd_script.specs.Next.{StandsNext, next_text, IsWhole}
use Rattle.sd_script.proofs.NextLemmas.{whole_next, StandsBefore, body_stands, line_stands}
use Rattle.sd_script.specs.Found.{BeginsWith, size_of}
use Rattle.sd_script.specs.Head.{head_of, item_of}
use Rattle.sd_script.specs.Reader.{lent_of, pending_of}
use Rattle.sd_script.specs.Reading.{Reading, left}
use Rattle.sd_script.specs.Reads.{next_of, Lends, at_behind, ReadsItem}
use Rattle.sd_script.specs.declared.head.Head.{Head}
use Rattle.sd_script.specs.declared.head.Head.TheVariants.{Packet, Flush, Admin, End}
use Rattle.sd_script.specs.declared.record.Found.{Found}

-- how many bytes the body has that a first line announces, if it does
abbrev pub len_of : Option Body → Option ℕ
len_of announced = option_map (λ b. b.len) announced

-- what stands next is counted by its text
counted : (head : model.Head) (bytes : List ℕ) (at : ℕ) → at_behind (whole_next head bytes) at ≡ min (at + length (next_text (whole_next head bytes))) last_count
counted (PacketHead who moment len) bytes at = refl
counted (FlushHead ts) bytes at = refl
counted (AdminHead moment len) bytes at = refl
counted EndHead bytes at = refl

-- what is answered says what stands next
said : (head : Head) (bytes : List ℕ) → next_of (item_of head) bytes ≡ whole_next (head_of head) bytes
said (Packet who moment len) bytes = refl
said (Flush ts) bytes = refl
said (Admin moment len) bytes = refl
said End bytes = refl

-- a body is lent where the first line announces one
lent : (head : Head) (rest : List ℕ) → Lends (item_of head) (lent_of (len_of (body_of (head_of head))) rest)
lent (Packet who moment len) rest = tt
lent (Flush ts) rest = refl
lent (Admin moment len) rest = tt
lent End rest = refl

module _ (receivers : ℕ) (head : model.Head) (held rest : List ℕ) (form : IsForm receivers head) (whole : held ≡ head_line head ++ 10 ∷ rest) where
  -- a first line, and its body behind it if it announces one
  before_it : (announced : Option Body) → body_of head ≡ announced → IfSome announced (λ b. IsWhole b rest) → StandsBefore receivers (whole_next head (lent_of (len_of announced) rest)) held (pending_of (len_of announced) rest)
  before_it None none so = line_stands receivers head held rest none form whole
  before_it (Some body) some so = body_stands receivers head body held rest some form whole so

  length-next_text : (announced : Option Body) → body_of head ≡ announced → IfSome announced (λ b. IsWhole b rest)
      → length (next_text (whole_next head (lent_of (len_of announced) rest))) ≡ length (head_line head) + 1 + option_map_or (λ b. b.len + 1) announced 0
  length-next_text None none so =
      let text = next_text (whole_next head (lent_of None rest)) in
      omega (arith, ap length (before_it None none so).whole, ap length whole, length-append text rest, length-append (head_line head) (10 ∷ rest))
  length-next_text (Some body) some so =
      let text = next_text (whole_next head (lent_of (Some body.len) rest)) in
      let behind = drop (body.len + 1) rest in
      omega (arith, so.1, ap length (before_it (Some body) some so).whole, ap length whole, length-append text behind, length-append (head_line head) (10 ∷ rest), length-drop (body.len + 1) rest)

-- A record that stands at the start of what is held was read: its first line is let go, and its body is lent, if it has
-- one.
pub reads_record : (found : Found) (held : List ℕ) (old new : Reading) (had has : Content) (len : Option ℕ) → BeginsWith old.receivers found held → put_back held has ≡ left old had → len ≡ len_of (body_of (head_of found.head))
    → new.body ≡ lent_of len (drop found.line held) → new.pending ≡ pending_of len (drop found.line held) → new.at ≡ min (old.at + size_of found) last_count → new.receivers ≡ old.receivers → ReadsItem (item_of found.head) old had new has
reads_record found held old new had has len begins same is lends behind counts receivers =
    let head = head_of found.head in
    let rest = drop found.line held in
    let text = lent_of (len_of (body_of head)) rest in
    let next = whole_next head text in
    let prefix = before_it old.receivers head held rest begins.prefix.form begins.prefix.whole (body_of head) refl begins.body in
    let size = length-next_text old.receivers head held rest begins.prefix.form begins.prefix.whole (body_of head) refl begins.body in
    let body : new.body ≡ text = rw is at lends in
    let pending : new.pending ≡ pending_of (len_of (body_of head)) rest = rw is at behind in
    let says : next_of (item_of found.head) new.body ≡ next = ap (next_of (item_of found.head)) body ∙ said found.head text in
    let whole : held ≡ next_text next ++ new.pending = prefix.whole ∙ ap (λ xs. next_text next ++ xs) (sym pending) in
    let reads = sym same ∙ ap (λ xs. put_back xs has) whole ∙ sym (put_back-append (next_text next) new.pending has) in
    record {
      stands = subst (λ (n : Next). StandsNext old.receivers n (left old had) new.pending has) (sym says) (record { begins = prefix.begins new.pending has; reads = reads });
      at = omega (arith, counts, size, begins.prefix.size, counted head text old.at, ap (λ n. at_behind n old.at) says);
      lends = subst (Lends (item_of found.head)) (sym body) (lent found.head rest);
      receivers = receivers;
    }
