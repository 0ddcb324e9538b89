-- Sessions, turn by turn.
use Rattle.std.proofs.Common.{◌≡◌, ℕ, ◌<◌, length, List, [], ◌∷◌, ◌++◌, refl, ap, subst, ◌∙◌, append-nil, append_assoc, sym}
use Rattle.std.proofs.lemmas.Grind.{flat_map-append}
use Rattle.sd_model_outside.specs.Outside.{Object, Content, HasRead, given, put_back, telling}
use Rattle.sd_outside.specs.Turns.{FitsLastCount}
use Rattle.sd_model_outside.proofs.OutsideLemmas.{Reads-nil}
use Rattle.sd_outside.proofs.NothingWritten.{appended-nil}
use Rattle.sd_model_outside.proofs.WriteLemmas.{given-given}
use Rattle.sd_model_serve.specs.Sessions.{ends_by_fault, Talk, Dialogue, EndsSession, FitsLine, HasNoNewline, HasTalked, bytes_of, replied, too_many, lines_in}
use Rattle.sd_model_serve.specs.Sessions as model
use Rattle.sd_outside.proofs.ReadLemmas.{reads_on}
use Rattle.sd_talk.specs.Answers.{Answers}
use Rattle.sd_talk.specs.Reading.{CannotRead, Listens, RepliesTooLong, Stops}
use Rattle.sd_talk.specs.Sessions.{HoldsSession, end_of, visit_of}
use Rattle.sd_talk.specs.declared.answerer.LineAnswer.TheVariants as line_answer
use Rattle.sd_talk.specs.declared.sessions.SessionEnd.{SessionEnd}
use Rattle.sd_talk.specs.declared.sessions.SessionEnd.TheVariants as code
use Rattle.sd_talk.proofs.AlongLemmas.{Along-append, all-append}

HasRead-nil : (o : Object) → HasRead [] o o
HasRead-nil o = ap (λ (t : Content). telling t o) (Reads-nil o.content)

given-nil : (o : Object) → FitsLastCount o.content → o ≡ given [] o
given-nil o fits = ap (λ (t : Content). telling t o) (sym (appended-nil o.content fits))

module _ {E V : Type 0} (t : Talk E) (leads : E → V → V → Type 0) where
  bytes-append : (xs ys : List E) → bytes_of t (xs ++ ys) ≡ bytes_of t xs ++ bytes_of t ys
  bytes-append xs ys = flat_map-append (λ (e : E). t.line e ++ 10 ∷ []) xs ys

  -- an exchange's line fits a line
  abbrev Fits : E → Type 0
  Fits e = FitsLine (t.line e)

  -- a line and what stands behind it, as the bytes of one exchange
  first_line : (e : E) (line bytes behind : List ℕ) → t.line e ≡ line → bytes ≡ line ++ 10 ∷ behind → bytes ≡ bytes_of t (e ∷ []) ++ behind
  first_line e line bytes behind is cut =
      cut ∙ ap (λ (l : List ℕ). l ++ 10 ∷ behind) (sym is) ∙ sym (append_assoc (t.line e) (10 ∷ []) behind) ∙ ap (λ (bs : List ℕ). bs ++ behind) (sym (append-nil (t.line e ++ 10 ∷ [])))

  -- nothing was read yet
  pub Listens-none : (v : V) (rest : List ℕ) (source sink : Object) → FitsLastCount sink.content → Listens t leads v v rest rest source source sink sink
  Listens-none v rest source sink fits = record {
    exchanges = [];
    bytes = [];
    lines = tt;
    each = tt;
    read = HasRead-nil source;
    cut = append-nil rest;
    did = refl;
    written = given-nil sink fits;
  }

  -- bytes were read behind those that were left
  pub Listens-read : (v : V) (rest rest_now bytes : List ℕ) (source source_now sink : Object) → FitsLastCount sink.content → HasRead bytes source source_now → rest_now ≡ rest ++ bytes → Listens t leads v v rest rest_now source source_now sink sink
  Listens-read v rest rest_now bytes source source_now sink fits read cut = record {
    exchanges = [];
    bytes = bytes;
    lines = tt;
    each = tt;
    read = read;
    cut = sym cut;
    did = refl;
    written = given-nil sink fits;
  }

  -- the first line that was left was executed
  pub Listens-line : (old new : V) (line rest rest_now : List ℕ) (source sink sink_now : Object) → (e : E) × Answers t e line line_answer.Whole sink sink_now × leads e old new → FitsLine line → rest ≡ line ++ 10 ∷ rest_now → Listens t leads old new rest rest_now source source sink sink_now
  Listens-line old new line rest rest_now source sink sink_now (e, answers, led) fits cut = record {
    exchanges = e ∷ [];
    bytes = [];
    lines = (answers.1.0, tt);
    each = (subst FitsLine (sym answers.0) fits, tt);
    read = HasRead-nil source;
    cut = append-nil rest ∙ first_line e line rest rest_now answers.0 cut;
    did = (new, led, refl);
    written = answers.1.1 ∙ ap (λ (text : List ℕ). given text sink) (sym (append-nil (t.text e)));
  }

  -- a turn behind others
  pub Listens-next : (old mid new : V) (rest rest_mid rest_now : List ℕ) (source source_mid source_now sink sink_mid sink_now : Object) → Listens t leads old mid rest rest_mid source source_mid sink sink_mid → Listens t leads mid new rest_mid rest_now source_mid source_now sink_mid sink_now
      → Listens t leads old new rest rest_now source source_now sink sink_now
  Listens-next old mid new rest rest_mid rest_now source source_mid source_now sink sink_mid sink_now a b = record {
    exchanges = a.exchanges ++ b.exchanges;
    bytes = a.bytes ++ b.bytes;
    lines = all-append t.goes_on a.exchanges b.exchanges a.lines b.lines;
    each = all-append Fits a.exchanges b.exchanges a.each b.each;
    read = reads_on a.bytes b.bytes source source_mid source_now a.read b.read;
    cut =
        sym (append_assoc rest a.bytes b.bytes) ∙ ap (λ (bs : List ℕ). bs ++ b.bytes) a.cut ∙ append_assoc (bytes_of t a.exchanges) rest_mid b.bytes
        ∙ ap (λ (bs : List ℕ). bytes_of t a.exchanges ++ bs) b.cut ∙ sym (append_assoc (bytes_of t a.exchanges) (bytes_of t b.exchanges) rest_now)
        ∙ ap (λ (bs : List ℕ). bs ++ rest_now) (sym (bytes-append a.exchanges b.exchanges));
    did = Along-append leads a.exchanges b.exchanges old mid new a.did b.did;
    written =
        b.written ∙ ap (given (replied t b.exchanges)) a.written ∙ given-given (replied t a.exchanges) (replied t b.exchanges) sink
        ∙ ap (λ (text : List ℕ). given text sink) (sym (flat_map-append t.text a.exchanges b.exchanges));
  }

  -- a session that ended at its last turn
  pub Listens-stops : (ended : SessionEnd) (old mid new : V) (rest : List ℕ) (source source_mid source_now sink sink_mid sink_now : Object) → Listens t leads old mid [] rest source source_mid sink sink_mid → Stops t leads (end_of ended) mid new rest source_mid source_now sink_mid sink_now
      → HoldsSession t leads ended (visit_of source source_now sink sink_now (ends_by_fault (end_of ended))) old new
  Listens-stops ended old mid new rest source source_mid source_now sink sink_mid sink_now a b = record {
    dialogue = dialogue;
    talked = record {
      lines = a.lines;
      each = all-append Fits a.exchanges b.last a.each b.each;
      read = ap (λ (o : Object). o.content) a.read ∙ ap (λ (bs : List ℕ). put_back bs source_mid.content) all ∙ ap (put_back (bytes_of t (a.exchanges ++ b.last) ++ b.behind)) (sym b.content);
      source_place = b.source_place ∙ sym (ap (λ (o : Object). o.opened_at) a.read);
      sink_place = b.sink_place ∙ ap (λ (o : Object). o.opened_at) a.written;
      ends =
          subst (λ n. EndsSession t (end_of ended) b.last b.behind n source_now (given (replied t a.exchanges) sink) sink_now) (sym (ap (λ (o : Object). o.faults) a.read))
          (subst (λ (o : Object). EndsSession t (end_of ended) b.last b.behind source_mid.faults source_now o sink_now) a.written b.ends);
    };
    ended_is = refl;
    fault = refl;
    did = Along-append leads a.exchanges b.last old mid new a.did b.did;
  } where
    dialogue : Dialogue E
    dialogue = record { exchanges = a.exchanges; last = b.last; rest = b.behind; ended = end_of ended }

    all : a.bytes ≡ bytes_of t (a.exchanges ++ b.last) ++ b.behind
    all =
        a.cut ∙ ap (λ (bs : List ℕ). bytes_of t a.exchanges ++ bs) b.cut ∙ sym (append_assoc (bytes_of t a.exchanges) (bytes_of t b.last) b.behind)
        ∙ ap (λ (bs : List ℕ). bs ++ b.behind) (sym (bytes-append a.exchanges b.last))

  -- the first line that was left asks for the end
  pub Stops-quit : (old new : V) (line rest behind : List ℕ) (source sink sink_now : Object) → (e : E) × Answers t e line line_answer.Quit sink sink_now × leads e old new → FitsLine line → rest ≡ line ++ 10 ∷ behind → Stops t leads model.Quit old new rest source source sink sink_now
  Stops-quit old new line rest behind source sink sink_now (e, answers, led) fits cut = record {
    last = e ∷ [];
    each = (subst FitsLine (sym answers.0) fits, tt);
    behind = behind;
    cut = first_line e line rest behind answers.0 cut;
    content = refl;
    source_place = refl;
    sink_place = ap (λ (o : Object). o.opened_at) answers.1.1;
    did = (new, led, refl);
    ends = (e, refl, answers.1.0, refl, answers.1.1);
  }

  -- the reply to it was cut
  pub Stops-cut : (old new : V) (line rest behind : List ℕ) (source sink sink_now : Object) → (e : E) × Answers t e line line_answer.Cut sink sink_now × leads e old new → sink_now.opened_at ≡ sink.opened_at → FitsLine line → rest ≡ line ++ 10 ∷ behind
      → Stops t leads model.WriteFault old new rest source source sink sink_now
  Stops-cut old new line rest behind source sink sink_now (e, answers, led) place fits cut = record {
    last = e ∷ [];
    each = (subst FitsLine (sym answers.0) fits, tt);
    behind = behind;
    cut = first_line e line rest behind answers.0 cut;
    content = refl;
    source_place = refl;
    sink_place = place;
    did = (new, led, refl);
    ends = (refl, answers.1);
  }

  -- too many bytes are left, without a newline
  pub Stops-long : (ended : SessionEnd) (v : V) (rest : List ℕ) (source sink sink_now : Object) → HasNoNewline rest → length rest ≡ too_many → RepliesTooLong ended sink sink_now → Stops t leads (end_of ended) v v rest source source sink sink_now
  Stops-long code.LineTooLong v rest source sink sink_now no_newline many h = record {
    last = [];
    each = tt;
    behind = rest;
    cut = refl;
    content = refl;
    source_place = refl;
    sink_place = ap (λ (o : Object). o.opened_at) h;
    did = refl;
    ends = (refl, (no_newline, many), refl, h);
  }
  Stops-long code.WriteFault v rest source sink sink_now no_newline many h = record {
    last = [];
    each = tt;
    behind = rest;
    cut = refl;
    content = refl;
    source_place = refl;
    sink_place = h.used.opened_at;
    did = refl;
    ends = (refl, ((no_newline, many), h));
  }
  Stops-long code.Quit v rest source sink sink_now no_newline many h = absurd (h)
  Stops-long code.End v rest source sink sink_now no_newline many h = absurd (h)
  Stops-long code.ReadFault v rest source sink sink_now no_newline many h = absurd (h)

  -- no more is read
  pub Stops-read : (ended : SessionEnd) (v : V) (rest : List ℕ) (source source_now sink : Object) → HasNoNewline rest → length rest < too_many → CannotRead ended source source_now → Stops t leads (end_of ended) v v rest source source_now sink sink
  Stops-read code.End v rest source source_now sink no_newline few h = record {
    last = [];
    each = tt;
    behind = rest;
    cut = refl;
    content = ap (λ (o : Object). o.content) h.0;
    source_place = ap (λ (o : Object). o.opened_at) h.0;
    sink_place = refl;
    did = refl;
    ends = (refl, (no_newline, few), h.1, ap (λ (o : Object). o.faults) h.0, refl);
  }
  Stops-read code.ReadFault v rest source source_now sink no_newline few h = record {
    last = [];
    each = tt;
    behind = rest;
    cut = refl;
    content = ap (λ (o : Object). o.content) h.same;
    source_place = h.used.opened_at;
    sink_place = refl;
    did = refl;
    ends = (refl, (no_newline, few), h.rose, refl);
  }
  Stops-read code.Quit v rest source source_now sink no_newline few h = absurd (h)
  Stops-read code.WriteFault v rest source source_now sink no_newline few h = absurd (h)
  Stops-read code.LineTooLong v rest source source_now sink no_newline few h = absurd (h)
