use Rattle.std.proofs.Common.{◌≡◌, rules, sym, subst, All}
use Rattle.std.proofs.lemmas.List.Elements.{All-take, All-drop}
use Rattle.workers.proofs.stealing.+drain_queues+fn-drain_queues-join+arg2+fn-drain_queues-join+arg3.Goals as goal

pub join-far_end-requires-after_bounds : goal.join-far_end-requires-after_bounds
join-far_end-requires-after_bounds g n0 c κs within = let t = g.J.TileJob in let s = c.split_at_mut-near_queues.ensures in let n = t.tile_count c.args.board.now.job in
    let front = subst (λ xs. All (λ k. k ≡ n) xs) (sym s.front) (All-take (λ k. k ≡ n) _ _ c.requires.queues) in let back = subst (λ xs. All (λ k. k ≡ n) xs) (sym s.back) (All-drop (λ k. k ≡ n) _ _ c.requires.queues) in search (rules, front, back)
