pub mod WayEnumerator
