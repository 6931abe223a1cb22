-- The replies to some of the lines are put in their places, one after another.
use Rattle.std.proofs.Common.{◌++◌, ◌∷◌, ◌∙◌, [], map, take, refl, subst, sym, ap}
use Rattle.std.proofs.lemmas.List.{take_more}
use mathlib.Core.List.{map-append}
use Rattle.kf_rounds.specs.KindViews.{kind_view}
use Rattle.kf_rounds.specs.Turns.{PutOut}
use Rattle.kf_rounds.specs.Seats.{untakens}
use Rattle.kf_rounds.proofs.Turning.{put_none, put_one, put_more}
use Rattle.kf_rounds.proofs.replies.put_replies.Goals as goal

pub loop-kind-init : goal.loop-kind-init
loop-kind-init g c = record {
  put = subst (λ bytes. PutOut [] (untakens c.args.seats.now) (untakens c.args.seats.now) c.args.out.now.items bytes) (sym c.reserve.ensures.items) (put_none _ c.args.out.now.items);
  boards = refl;
}

pub loop-kind-preserved : goal.loop-kind-preserved
loop-kind-preserved g c =
    let i = c.loop-kind.kind-index in
    let kinds = c.args.kinds.now in
    let kind = c.kind-item.result in
    let more = ap (map kind_view) (take_more kinds i kind c.loop-kind-test.true ∙ ap (λ k. take i kinds ++ k ∷ []) (sym c.kind-item.is)) ∙ map-append kind_view (take i kinds) (kind ∷ []) in
    record {
      put = subst (λ ks. PutOut ks (untakens c.args.seats.now) (untakens c.put_reply.new.seats) c.args.out.now.items c.put_reply.new.out.items) (sym more)
          (put_more (map kind_view (take i kinds)) (kind_view kind ∷ []) _ _ _ _ _ _ c.loop-kind.invariant.put (put_one (kind_view kind) _ _ _ _ c.in_ok-put_reply.ensures.put));
      boards = c.put_reply.ensures.boards ∙ c.loop-kind.invariant.boards;
    }
