use Rattle.std.proofs.Common.{◌≡◌, ◌+◌, ◌-◌, ◌≤◌, ◌∙◌, ℕ, length, take, drop, refl, sym, subst, rules}
use Rattle.std.proofs.lemmas.List.{length-take-le}
use borrow.Rule.Slice.PartMut.{put_mid, post_of, take_put}
use Rattle.kb_folder.specs.Folder.{Stays, bytes_in}
use Rattle.kb_folder.specs.Told.{Calls, calls_of, contents_of}
use Rattle.kb_folder.proofs.Told.{stays_read}
use Rattle.kb_folder.proofs.Synced.{looks_none, looks_on, looks_or}
use Rattle.kb_folder.proofs.Reading.{read_more, is_part, still_stays}
use Rattle.kb_folder.proofs.host_folder.read_whole.Goals as goal
use Rattle.kb_folder.proofs.host_folder.read_whole.Goals.{in-Ok, in-Err}

pub loop-preserved : goal.loop-preserved
loop-preserved c =
    let i = c.loop.invariant in
    let had = contents_of (calls_of c.args.history.now) in
    let file = c.args.file.now.number in
    let whole = bytes_in had file in
    let k = c.loop.read in
    let h = calls_of c.args.history.now in
    let more = looks_or c.read.result (calls_of c.loop.history) (calls_of c.read.new.self) file c.in-Some.from c.read.new.buffer c.read.ensures.read c.read.ensures.refused in
    let old = c.loop.buffer in
    let sub = c.read.new.buffer in
    let buffer = put_mid k (length old - k) old sub in
    let room : length buffer ≡ length c.args.buffer.now = search rules in
    elim c.match-read.branch [
      | in-Ok w ↦
          let n = w.in-Ok.n in
          let from = c.in-Some.from in
          let told = w.in-Ok.ensures.read in
          let fits : n ≤ length sub = search rules in
          let place : from ≡ c.args.at + k = search rules in
          record {
            within = search rules;
            room = room;
            looks = looks_on h (calls_of c.loop.history) (calls_of c.read.new.self) i.looks more;
            stays = still_stays (calls_of c.loop.history) (calls_of c.read.new.self) file had from (take n sub) i.stays told;
            bytes = λ t.
                let before = (stays_read (calls_of c.loop.history) (calls_of c.read.new.self) file from (take n sub) told).honest t in
                let part = is_part (calls_of c.loop.history) (calls_of c.read.new.self) file had from (take n sub) i.stays told t in
                subst (λ (m : ℕ). take m buffer ≡ take m (drop c.args.at whole)) (sym w.read-is)
                (read_more whole (take k old) sub (post_of k (length old - k) old) c.args.at from n k place (length-take-le k old i.within) fits (i.bytes before) part);
          }
      | in-Err w ↦
          let same = w.in-Err.ensures.refused in
          record {
            within = search rules;
            room = room;
            looks = looks_on h (calls_of c.loop.history) (calls_of c.read.new.self) i.looks more;
            stays = subst (λ (x : Calls). Stays had (contents_of x)) (sym same) i.stays;
            bytes = λ t.
                subst (λ (m : ℕ). take m buffer ≡ take m (drop c.args.at whole)) (sym w.read-is)
                (take_put k (length old - k) old sub i.within ∙ i.bytes (subst (λ (x : Calls). (contents_of x).honest) same t));
          }
    ]

pub loop-init : goal.loop-init
loop-init c = record {
  within = search rules;
  room = refl;
  looks = looks_none (calls_of c.args.history.now);
  stays = record { honest = λ t. t; files = λ t. refl };
  bytes = λ t. refl;
}

pub returns-then-read-buffer-clause-looks : goal.returns-then-read-buffer-clause-looks
returns-then-read-buffer-clause-looks c = c.loop.invariant.looks

pub returns-in_default-clause-looks : goal.returns-in_default-clause-looks
returns-in_default-clause-looks c = c.loop.invariant.looks

pub returns-in-Ok-eq0-clause-looks : goal.returns-in-Ok-eq0-clause-looks
returns-in-Ok-eq0-clause-looks c =
    looks_on (calls_of c.args.history.now) (calls_of c.loop.history) (calls_of c.read.new.self) c.loop.invariant.looks
    (looks_or c.read.result (calls_of c.loop.history) (calls_of c.read.new.self) c.args.file.now.number c.in-Some.from c.read.new.buffer c.read.ensures.read c.read.ensures.refused)

pub returns-in-Err-2-clause-looks : goal.returns-in-Err-2-clause-looks
returns-in-Err-2-clause-looks c =
    looks_on (calls_of c.args.history.now) (calls_of c.loop.history) (calls_of c.read.new.self) c.loop.invariant.looks
    (looks_or c.read.result (calls_of c.loop.history) (calls_of c.read.new.self) c.args.file.now.number c.in-Some.from c.read.new.buffer c.read.ensures.read c.read.ensures.refused)

pub returns-clause-looks : goal.returns-clause-looks
returns-clause-looks c = c.loop.invariant.looks
