-- `begin` writes the compact text of the object's normal form. `begin_object` writes the opening, `put_all` writes the
-- tokens left, and `text_wrote` joins both.
use Rattle.std.proofs.Common.{[], subst}
use Rattle.std.proofs.lemmas.Result.{on_ok_weaker}
use Rattle.miniserde_model.specs.Tokens.{tokens}
use Rattle.miniserde_value.specs.Values.{object_content}
use Rattle.miniserde_value.specs.Walks.{frames_left}
use Rattle.miniserde_value.specs.Writes.{Writes}
use Rattle.miniserde_value.proofs.Writes.{text_wrote, tree_wrote, normal_wrote, first_wrote}
use Rattle.miniserde_value.proofs.Written.{on_ok_both}
use Rattle.miniserde_value.proofs.json.write.ObjectSerialize.begin.Goals as goal

pub returns-clause-ok : goal.returns-clause-ok
returns-clause-ok c =
    let t = object_content c.args.self.now in
    let left = frames_left c.begin_object.new.frames in
    let begun : Writes c.args.w.now (tokens t []) c.begin_object.new.w left =
    subst (λ x. Writes c.args.w.now (tokens t x) c.begin_object.new.w left) c.new-frames.ensures.left
    c.in_ok-begin_object.ensures.ok in
    on_ok_both c.put_all.result
    (λ ended order. text_wrote t c.args.w.now c.begin_object.new.w c.put_all.new.w left
    (record { begun = begun; ended = ended }) (c.in_ok-begin_object.ensures.ordered order).0)
    c.put_all.ensures.ok c.put_all.ensures.ordered

pub returns-clause-in_range : goal.returns-clause-in_range
returns-clause-in_range c =
    let t = object_content c.args.self.now in
    let left = frames_left c.begin_object.new.frames in
    let begun : Writes c.args.w.now (tokens t []) c.begin_object.new.w left =
    subst (λ x. Writes c.args.w.now (tokens t x) c.begin_object.new.w left) c.new-frames.ensures.left
    c.in_ok-begin_object.ensures.ok in
    on_ok_weaker c.put_all.result
    (λ ended. tree_wrote t c.args.w.now c.begin_object.new.w c.put_all.new.w left
    (record { begun = begun; ended = ended })) c.put_all.ensures.ok

pub returns-clause-normal : goal.returns-clause-normal
returns-clause-normal c =
    let t = object_content c.args.self.now in
    let left = frames_left c.begin_object.new.frames in
    let begun : Writes c.args.w.now (tokens t []) c.begin_object.new.w left =
    subst (λ x. Writes c.args.w.now (tokens t x) c.begin_object.new.w left) c.new-frames.ensures.left
    c.in_ok-begin_object.ensures.ok in
    on_ok_weaker c.put_all.result
    (λ ended. normal_wrote t c.args.w.now c.begin_object.new.w c.put_all.new.w left
    (record { begun = begun; ended = ended })) c.put_all.ensures.ok

pub returns-clause-first : goal.returns-clause-first
returns-clause-first c =
    let t = object_content c.args.self.now in
    let left = frames_left c.begin_object.new.frames in
    let begun : Writes c.args.w.now (tokens t []) c.begin_object.new.w left =
    subst (λ x. Writes c.args.w.now (tokens t x) c.begin_object.new.w left) c.new-frames.ensures.left
    c.in_ok-begin_object.ensures.ok in
    on_ok_weaker c.put_all.result
    (λ ended. first_wrote t c.args.w.now c.begin_object.new.w c.put_all.new.w left
    (record { begun = begun; ended = ended })) c.put_all.ensures.ok
