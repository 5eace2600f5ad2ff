pub mod CachesFacts
