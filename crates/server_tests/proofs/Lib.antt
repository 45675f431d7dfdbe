mod Opening
mod Going
